-- What is shown by the part that was found in the words is shown by the part that is asked for.
use Rattle.std.proofs.Common.{◌≡◌, ℕ, List, Bool, Result, Ok, Err, IfOk, string_bytes, subst, sym}
use Rattle.std.specs.declared.alloc.AllocError.{AllocError}
use Rattle.cp_tree.specs.Syntax.{Tree}
use Rattle.cp_slots.specs.Tables.{Tables}
use Rattle.cp_legend.specs.declared.legend.Legend as code_legend
use Rattle.cp_tool.specs.declared.options.Options.{Options}
use Rattle.cp_show_mark.specs.declared.answer.ShowAnswer.{ShowAnswer}
use Rattle.cp_show_options.specs.declared.parts.Asked.{Asked}
use Rattle.cp_show_options.specs.declared.parts.ShowPart.{ShowPart}
use Rattle.cpx_show.specs.Shown.{IsGivenMark, IsShown}

module _ (a : Asked) (t : Tree) (r : Tables) (l : code_legend.Legend) (bytes : List ℕ) (source : List (List ℕ)) where
  abbrev pub IsShownBy : ShowPart → ShowAnswer → Type 0
  IsShownBy p x = IsShown p a t r l bytes source x.verdict (string_bytes x.text)

  pub by_part : (p : ShowPart) (result : Result ShowAnswer AllocError) → a.part ≡ p → IfOk result (IsShownBy p) → IfOk result (IsShownBy a.part)
  by_part p result is shown = subst (λ (q : ShowPart). IfOk result (IsShownBy q)) (sym is) shown

pub nothing_said : (result : Result ShowAnswer AllocError) → IfOk result (λ x. Unit {0})
nothing_said (Ok x) = tt
nothing_said (Err e) = tt

-- the words that are seen are those that are written
pub mark_shown : (json : Bool) (o : Options) (t : Tree) (r : Tables) (l : code_legend.Legend) (words written : List ℕ) (own : Bool) (bytes : List ℕ) (source : List (List ℕ)) (result : Result ShowAnswer AllocError) → words ≡ written → IfOk result (λ a. IsGivenMark json o t r l words own bytes source a.verdict (string_bytes a.text)) → IfOk result (λ a. IsGivenMark json o t r l written own bytes source a.verdict (string_bytes a.text))
mark_shown json o t r l words written own bytes source result same h = subst (λ (w : List ℕ). IfOk result (λ a. IsGivenMark json o t r l w own bytes source a.verdict (string_bytes a.text))) same h
