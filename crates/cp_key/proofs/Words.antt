-- The names that many proofs of this crate use, from one place.
pub use Rattle.std.proofs.Common.{List, [], ap, arith, drop, false, length, map, refl, subst, suc, sym, take, ℕ, ◌++◌, ◌+◌, ◌<◌, ◌∙◌, ◌∷◌, ◌≡◌, ◌≤◌}
pub use Rattle.std.proofs.lemmas.List.{append-nil, append_assoc, length-map}
pub use Rattle.std.specs.List.{flat_map}
pub use Rattle.std.specs.Prelude.{slice_index_or, vec_capacity}
pub use Rattle.cp_machine.proofs.CopyLemmas.{set_each}
pub use Rattle.cp_machine.specs.Bodies.{body_of, has_moved}
pub use Rattle.cp_machine.specs.Machine.{Machine, Monitor, Thread, monitor_of, no_monitor, no_thread, thread_at, thread_of}
pub use Rattle.cp_machine.specs.declared.process.ProcessState.{ProcessState}
pub use Rattle.cp_key.specs.Key.{body_key, monitor_key, status_key}
unfoldable pub use Rattle.cp_key.specs.Key.{key_of}
pub use Rattle.cp_key.specs.Known.{AreSameInside, inside, rest_at}
pub use Rattle.cp_key.specs.Numbers.{byte_key, integer_key, list_key, number_key}
pub use Rattle.cp_key.specs.Room.{HaveThreadRoom}
