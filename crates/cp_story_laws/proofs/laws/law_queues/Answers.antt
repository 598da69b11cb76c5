use Rattle.cp_story_laws.proofs.aims.QueuesWaited.{queues_law}
use Rattle.cp_story_laws.proofs.laws.law_queues.Goals as goal

pub returns : goal.returns
returns c = queues_law
