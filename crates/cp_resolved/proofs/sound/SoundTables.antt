-- Tables that are laid out are sound, where their numbers have not stopped and what items read, write and name is there.
use Rattle.cp_resolved.proofs.Words.{◌≡◌, ◌-◌, ◌<◌, ◌≤◌, length, refl, ap, List, arith, slice_get_within, Process, Listing, Layer}
use Rattle.cp_resolved.specs.Soundness.{SoundLaw}
use Rattle.cp_resolved.proofs.components.Handed.{First, program_first, program_handed}
use Rattle.cp_resolved.proofs.sound.SoundComponents.{Tabled, tabled, layer_of, listing_of, room_of, listed, images, components_sound, apart_sound, components_own, processes_sound, processes_own, routines_own, takes_nothing}
use Rattle.cp_resolved.proofs.sound.SoundItems.{items_sound, routines_sound}
use Rattle.cp_resolved.proofs.sound.SoundParameters.{parameters_sound, rising_sound}
use Rattle.cp_resolved.proofs.laid.Whole.{ProgramLaid, program_laid}

pub laid_sound : SoundLaw
laid_sound t tree e m n =
    let l : Layer = layer_of tree in
    let c : Listing = listing_of l in
    let d : Tabled t l c (room_of l) = tabled t tree e in
    let p : ProgramLaid l = program_laid tree.lines tree.program in
    let s = listed l (images l p.whole) in
    let first : First (length l.routines - 1) (length l.systems) c = program_first l.types l.systems l.owned (length l.routines - 1) in
    let few : length t.processes ≤ 16 = m.processes in
    let monitors : t.monitors ≤ 64 = m.monitors in
    let some : 0 < length c.processes = slice_get_within c.processes 0 _ first.process in
    let count : length t.processes ≡ length c.processes = ap (λ (xs : List Process). length xs) d.processes in
    record {
      items = items_sound t l d.shows p.whole m.held n.calls;
      routines = routines_sound t l d.shows p.whole m.held;
      components = components_sound t l c (room_of l) d p s (omega (arith, monitors));
      processes = processes_sound t l c (room_of l) d p s m.held refl;
      some = omega (arith, some, count);
      few = few;
      monitors = monitors;
      inside = n.inside;
      typed = record {
        routines = routines_own t l c (room_of l) d p s;
        components = components_own t l c (room_of l) d p s few;
        apart = apart_sound t l c (room_of l) d p s;
        parameters = λ k number lt. parameters_sound t l c (room_of l) d p.whole k number (m.cells k) lt;
        rising = λ k i j less lt. rising_sound t l c (room_of l) d p.whole k i j (m.cells k) less lt;
        processes = processes_own t l c (room_of l) d p s few;
        actions = n.actions;
        words = m.words;
      };
      program = takes_nothing t l c (room_of l) d p s first (program_handed tree.lines tree.program);
    }
