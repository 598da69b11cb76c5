-- Who waited and goes on, who leaves its queue, and who has begun, by statuses and by how processes stand.
use Rattle.std.proofs.Common.{◌≡◌, ◌∙◌, ℕ, ◌==◌, Bool, List, ap, sym, refl, length}
use Rattle.std.proofs.lemmas.List.{length-map}
use Rattle.std.proofs.lemmas.List.Elements.{filter_agree}
use Rattle.std.proofs.Math.ListN.{get_or-map}
use Rattle.std.specs.List.{filter, range_with_len}
use Rattle.std.specs.Prelude.{map, not, slice_index_or, ◌&&◌}
use Rattle.cp_machine.specs.declared.process.Status as slot_status
use Rattle.cp_machine.specs.declared.process.Status.TheVariants as status
use Rattle.cp_machine.specs.Machine as machine
use Rattle.cp_machine.specs.Machine.{Machine, Thread, is_ready, is_ready_status, no_thread, thread_at}
use Rattle.cp_legend.specs.Names.{Legend}
use Rattle.cp_story.specs.Story as story
use Rattle.cp_story.specs.Story.{resumed_processes, started_processes, statuses_in}
use Rattle.cp_story_laws.proofs.WokenAgree.{released_processes}
use Rattle.cp_story_laws.specs.Standings as stands
use Rattle.cp_story_laws.specs.Standings.{Standing, standing_at, released, resumed, started, goes_on}
use Rattle.cp_story_laws.specs.Statements.{standing_told}

module _ (legend : Legend) where
  abbrev told : slot_status.Status → Standing
  told = standing_told legend

  -- ---- each status

  pub gate_kept : (u : slot_status.Status) → stands.is_gated (told u) ≡ story.is_gated u
  gate_kept status.Unstarted = refl
  gate_kept status.Ready = refl
  gate_kept (status.AtGate n) = refl
  gate_kept (status.Delayed c) = refl
  gate_kept status.Ended = refl

  pub queue_kept : (u : slot_status.Status) → stands.is_queued (told u) ≡ story.is_queued u
  queue_kept status.Unstarted = refl
  queue_kept status.Ready = refl
  queue_kept (status.AtGate n) = refl
  queue_kept (status.Delayed c) = refl
  queue_kept status.Ended = refl

  ready_kept : (u : slot_status.Status) → goes_on (told u) ≡ is_ready_status u
  ready_kept status.Unstarted = refl
  ready_kept status.Ready = refl
  ready_kept (status.AtGate n) = refl
  ready_kept (status.Delayed c) = refl
  ready_kept status.Ended = refl

  unstarted_kept : (u : slot_status.Status) → stands.is_unstarted (told u) ≡ machine.is_unstarted u
  unstarted_kept status.Unstarted = refl
  unstarted_kept status.Ready = refl
  unstarted_kept (status.AtGate n) = refl
  unstarted_kept (status.Delayed c) = refl
  unstarted_kept status.Ended = refl

  -- ---- those of a machine

  at_before : (before : List slot_status.Status) (q : ℕ) → standing_at (map told before) q ≡ told (slice_index_or before q status.Ended)
  at_before before q = get_or-map told before q status.Ended

  at_now : (m : Machine) (q : ℕ) → standing_at (map told (statuses_in m)) q ≡ told (thread_at m.threads q).status
  at_now m q = at_before (statuses_in m) q ∙ ap told (get_or-map (λ (x : Thread). x.status) m.threads q no_thread)

  count : (m : Machine) → length m.threads ≡ length (map told (statuses_in m))
  count m = sym (length-map m.threads (λ (x : Thread). x.status)) ∙ sym (length-map (statuses_in m) told)

  pub gated_same : (m : Machine) (q : ℕ) → story.is_gated (thread_at m.threads q).status ≡ stands.is_gated (standing_at (map told (statuses_in m)) q)
  gated_same m q = sym (ap stands.is_gated (at_now m q) ∙ gate_kept (thread_at m.threads q).status)

  -- the same numbers pass
  passes : (m : Machine) (F G : ℕ → Bool) → ((q : ℕ) → F q ≡ G q) → filter F (range_with_len 0 (length m.threads)) ≡ filter G (range_with_len 0 (length (map told (statuses_in m))))
  passes m F G each = filter_agree F G each (range_with_len 0 (length m.threads)) ∙ ap (λ (n : ℕ). filter G (range_with_len 0 n)) (count m)

  pub resumed_same : (waited : slot_status.Status → Bool) (stood : Standing → Bool) → ((u : slot_status.Status) → stood (told u) ≡ waited u) → (before : List slot_status.Status) (m : Machine) (p : ℕ) → resumed_processes waited before m p ≡ resumed stood (map told before) (map told (statuses_in m)) p
  resumed_same waited stood kept before m p =
      passes m (λ q. waited (slice_index_or before q status.Ended) && not (q == p) && is_ready m q) (λ q. stood (standing_at (map told before) q) && not (q == p) && goes_on (standing_at (map told (statuses_in m)) q)) each
    where
      each : (q : ℕ) → (waited (slice_index_or before q status.Ended) && not (q == p) && is_ready m q) ≡ (stood (standing_at (map told before) q) && not (q == p) && goes_on (standing_at (map told (statuses_in m)) q))
      each q =
          let a : stood (standing_at (map told before) q) ≡ waited (slice_index_or before q status.Ended) = ap stood (at_before before q) ∙ kept (slice_index_or before q status.Ended) in
          let b : goes_on (standing_at (map told (statuses_in m)) q) ≡ is_ready m q = ap goes_on (at_now m q) ∙ ready_kept (thread_at m.threads q).status in
          cc

  pub released_same : (before : List slot_status.Status) (m : Machine) → released_processes before m ≡ released (map told before) (map told (statuses_in m))
  released_same before m =
      passes m (λ q. story.is_queued (slice_index_or before q status.Ended) && not (story.is_queued (thread_at m.threads q).status)) (λ q. stands.is_queued (standing_at (map told before) q) && not (stands.is_queued (standing_at (map told (statuses_in m)) q))) each
    where
      each : (q : ℕ) → (story.is_queued (slice_index_or before q status.Ended) && not (story.is_queued (thread_at m.threads q).status)) ≡ (stands.is_queued (standing_at (map told before) q) && not (stands.is_queued (standing_at (map told (statuses_in m)) q)))
      each q =
          let a : stands.is_queued (standing_at (map told before) q) ≡ story.is_queued (slice_index_or before q status.Ended) = ap stands.is_queued (at_before before q) ∙ queue_kept (slice_index_or before q status.Ended) in
          let b : stands.is_queued (standing_at (map told (statuses_in m)) q) ≡ story.is_queued (thread_at m.threads q).status = ap stands.is_queued (at_now m q) ∙ queue_kept (thread_at m.threads q).status in
          cc

  pub started_same : (before : List slot_status.Status) (m : Machine) → started_processes before m ≡ started (map told before) (map told (statuses_in m))
  started_same before m =
      passes m (λ q. machine.is_unstarted (slice_index_or before q status.Ended) && not (machine.is_unstarted (thread_at m.threads q).status)) (λ q. stands.is_unstarted (standing_at (map told before) q) && not (stands.is_unstarted (standing_at (map told (statuses_in m)) q))) each
    where
      each : (q : ℕ) → (machine.is_unstarted (slice_index_or before q status.Ended) && not (machine.is_unstarted (thread_at m.threads q).status)) ≡ (stands.is_unstarted (standing_at (map told before) q) && not (stands.is_unstarted (standing_at (map told (statuses_in m)) q)))
      each q =
          let a : stands.is_unstarted (standing_at (map told before) q) ≡ machine.is_unstarted (slice_index_or before q status.Ended) = ap stands.is_unstarted (at_before before q) ∙ unstarted_kept (slice_index_or before q status.Ended) in
          let b : stands.is_unstarted (standing_at (map told (statuses_in m)) q) ≡ machine.is_unstarted (thread_at m.threads q).status = ap stands.is_unstarted (at_now m q) ∙ unstarted_kept (thread_at m.threads q).status in
          cc
