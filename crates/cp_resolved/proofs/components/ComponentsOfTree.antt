-- The tables of a tree list its components and processes.
use Rattle.std.proofs.Common.{◌≡◌, ℕ, suc, ◌<◌, ◌≤◌, List, [], ◌∷◌, length, Option, Some, None, slice_get, refl, sym, ap, subst, ◌∙◌, arith}
use Rattle.cp_resolved.proofs.Words.{◌-◌, slice_get_within, Program, Tree, Contained, plain, laid, program_parts, Listing, empty_listing, Layer, Owned, System}
use Rattle.cp_resolved.proofs.Words.{nothing_laid, Tables, Numbering, IsPlain, numbering_of, program_parts_parts, layer_or, parts_at, whole_laid}
use Rattle.cp_tree.specs.declared.declaration.SystemKind.TheVariants as system_kind
use Rattle.cp_meaning.specs.Components.{listed, components_of}
use Rattle.cp_meaning.specs.Systems.{SystemMeaning, declared, program_system, own_meaning, or_own, system_of}
use Rattle.cp_resolved.proofs.components.ComponentOrder.{owned_in, steps, IsMeant, program_same}
use Rattle.cp_resolved.proofs.components.ComponentsStand.{AreListed}
use Rattle.cp_resolved.proofs.laid.EarlierTypes.{program_earlier}
use Rattle.cp_resolved.proofs.names.Entries.{past_there, not_there, still_there, last_entry, there}
use Rattle.cp_resolved.proofs.frames.EncodedCells.{HoldEarlier}
use Rattle.cp_resolved.proofs.names.Opened.{opened_all}
use Rattle.cp_resolved.proofs.systems.OwnedParts.{all_contained, AreLow, count_after}
use Rattle.cp_resolved.proofs.sound.SoundComponents.{tabled, listing_of}
use Rattle.cp_resolved.proofs.systems.SystemsLaid.{OwnIs, AllLaid, all_laid}

module _ (t : Tree) (h : IsPlain t.program) where
  abbrev pub program : Program
  program = t.program

  abbrev pub end : Layer
  end = whole_laid t

  abbrev pub last : ℕ
  last = length end.routines - 1

  abbrev pub numbering : Numbering
  numbering = numbering_of t.program

  -- the state before the routines of the program
  abbrev pub around : Layer
  around = program_parts (nothing_laid t.lines) program.parts

  pub laid_all : AllLaid numbering end t
  laid_all = all_laid numbering t h.small h.fit h.numbered (opened_all t.program)

  pub earlier : HoldEarlier end.types
  earlier = program_earlier t.lines t.program

  pub count_same : length end.systems ≡ program_system program
  count_same = laid_all.count

  pub meaning_of : (j : ℕ) (m : SystemMeaning) → slice_get (declared program).systems j ≡ Some m → system_of program j ≡ m
  meaning_of j m e = ap (or_own (own_meaning (declared program) program)) e

  past_meaning : (j : ℕ) → slice_get (declared program).systems j ≡ None → system_of program j ≡ own_meaning (declared program) program
  past_meaning j e = ap (or_own (own_meaning (declared program) program)) e

  pub program_meaning : system_of program (program_system program) ≡ own_meaning (declared program) program
  program_meaning = past_meaning (program_system program) (past_there (declared program).systems)

  pub program_kind : (system_of program (program_system program)).kind ≡ system_kind.Process
  program_kind = ap (λ (m : SystemMeaning). m.kind) program_meaning

  -- a system type, or the program, by its number
  pub record Own (j : ℕ) : Type 0 where
    pub owned : Owned
    pub is : owned_in program end.types end.systems end.owned last (slice_get end.systems j) ≡ owned
    pub own : OwnIs numbering end j (parts_at t j) owned (system_of program j)

  numbered : (j : ℕ) (s : System) → slice_get end.systems j ≡ Some s → OwnIs numbering end j (parts_at t j) s.owned (system_of program j)
  numbered j s e =
      let n = laid_all.systems j s e in
      let at : parts_at t j ≡ n.around = ap (layer_or (nothing_laid t.lines)) (still_there (program_parts_parts (nothing_laid t.lines) program.parts) (around ∷ []) j n.around n.there) in
      subst (λ q. OwnIs numbering end j q s.owned (system_of program j)) (sym at) (subst (λ m. OwnIs numbering end j n.around s.owned m) (sym (meaning_of j n.meaning n.meant)) n.is.own)

  pub own_of : (j : ℕ) → j ≤ program_system program → Own j
  own_of j le = go (slice_get end.systems j) refl
    where
      go : (q : Option System) → slice_get end.systems j ≡ q → Own j
      go (Some s) e = record { owned = s.owned; is = ap (owned_in program end.types end.systems end.owned last) e; own = numbered j s e }
      go None e =
          let past : length end.systems ≤ j = not_there end.systems j e in
          let c = count_same in
          let same : program_system program ≡ j = omega (arith, past, c, le) in
          let n = laid_all.layers in
          let at : parts_at t (program_system program) ≡ around = ap (λ i. parts_at t i) (sym n) ∙ ap (layer_or (nothing_laid t.lines)) (last_entry (program_parts_parts (nothing_laid t.lines) program.parts) around) in
          record {
            owned = end.owned;
            is = ap (owned_in program end.types end.systems end.owned last) e;
            own = subst (λ i. OwnIs numbering end i (parts_at t i) end.owned (system_of program i)) same
                (subst (λ q. OwnIs numbering end (program_system program) q end.owned (system_of program (program_system program))) (sym at) (subst (λ m. OwnIs numbering end (program_system program) around end.owned m) (sym program_meaning) laid_all.program));
          }

  higher : (m n : ℕ) (cs : List Contained) → m ≤ n → AreLow m cs → AreLow n cs
  higher m n [] le g = tt
  higher m n (c ∷ cs) le g = (let lt : c.system < m = g.0 in omega (arith, lt, le), higher m n cs le g.1)

  pub low : (k : ℕ) → AreLow k (all_contained (system_of program k).variables)
  low k = go (slice_get (declared program).systems k) refl
    where
      go : (q : Option SystemMeaning) → slice_get (declared program).systems k ≡ q → AreLow k (all_contained (system_of program k).variables)
      go (Some m) e =
          let c = count_same in
          let lt = slice_get_within (declared program).systems k m e in
          let s = there end.systems k (omega (arith, lt, c)) in
          (numbered k s.0 s.1).low
      go None e =
          subst (λ (m : SystemMeaning). AreLow k (all_contained m.variables)) (sym (past_meaning k e)) (higher (program_system program) k (all_contained (declared program).variables) (not_there (declared program).systems k e) laid_all.program.low)

  pub counted : (j : ℕ) (s : System) → slice_get end.systems j ≡ Some s → s.owned.count ≡ count_after end.systems 1 (all_contained (system_of program j).variables)
  counted j s e = (numbered j s e).owns.count

  meant : (j : ℕ) (s : System) → slice_get end.systems j ≡ Some s → IsMeant program end.types end.systems end.owned last j s
  meant j s e =
      let n = laid_all.systems j s e in
      record {
        kind = n.is.kind ∙ sym (ap (λ (m : SystemMeaning). m.kind) (meaning_of j n.meaning n.meant));
        contained = (numbered j s e).owns.contained;
        low = low j;
      }

  listing_is : listing_of end ≡ steps program end.types end.systems end.owned last empty_listing (components_of program)
  listing_is =
      let c = count_same in
      let kind = ap (λ j. (system_of program j).kind) c ∙ program_kind in
      let vs = ap (λ j. (system_of program j).variables) c ∙ ap (λ (m : SystemMeaning). m.variables) program_meaning in
      program_same program end.types end.systems end.owned last meant kind (laid_all.program.owns.contained ∙ ap all_contained (sym vs)) (low (length end.systems))
      ∙ ap (λ j. steps program end.types end.systems end.owned last empty_listing (listed program (suc j) j [])) c

  pub tables_listed : (r : Tables) → plain r ≡ laid t → AreListed program end.types end.systems end.owned last r
  tables_listed r e =
      let d = tabled r t e in
      record {
        components = d.components ∙ ap (λ (c : Listing). c.components) listing_is;
        processes = d.processes ∙ ap (λ (c : Listing). c.processes) listing_is;
        monitors = d.monitors ∙ ap (λ (c : Listing). c.monitors) listing_is;
        permanents = d.permanents ∙ ap (λ (c : Listing). c.permanents) listing_is;
      }
