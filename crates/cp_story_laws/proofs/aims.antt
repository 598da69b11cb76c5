pub mod EndsAgree
pub mod OneQueue
pub mod PlainItems
pub mod QueueCells
pub mod QueuePlaces
pub mod QueuesAimed
pub mod QueuesWaited
