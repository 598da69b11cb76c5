use Rattle.std.proofs.Common.{◌≡◌, ◌∙◌, ◌++◌, List, ℕ, ap, codes, string_bytes}
use Rattle.std.specs.Prelude.{decimal}
use Rattle.std.proofs.lemmas.List.{append_assoc}
use Rattle.std.proofs.lemmas.Result.{IfOk-weaker}
use Rattle.cp_legend.specs.Names.{legend_seen, path_in, process_in}
use Rattle.cp_outcomes.specs.Told.{error_text, setting_of}
use Rattle.cp_outcomes.proofs.told.error_line.Goals as goal

-- the number, the name and the line
abbrev text_with : (process line : ℕ) → (name there : List ℕ) → List ℕ
text_with process line name there =
    decimal process ++ codes " " ++ name ++ codes " at line " ++ decimal line ++ codes ": " ++ there

pub returns : goal.returns
returns c =
    let name = c.process_name-name.result.now in
    let there = c.line_of-there.result.now in
    let process = c.args.process in
    let line = c.args.line in
    IfOk-weaker c.format.result _ (λ text. string_bytes text ≡ error_text (setting_of c.args.subject c.args.subject.limits.choices) process line) (λ text e. (let plain : string_bytes text ≡ text_with process line name there = e ∙ simp append_assoc in plain ∙ ap (λ (n : List ℕ). text_with process line n there) c.process_name-name.ensures ∙ ap (λ (t : List ℕ). text_with process line (path_in (process_in (legend_seen c.args.subject.legend.now).components process)) t) c.line_of-there.ensures)) c.format.ensures.ok
