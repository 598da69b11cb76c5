use Rattle.std.proofs.Common.{◌++◌, codes, map, string_bytes}
use Rattle.std.specs.Prelude.{decimal}
use Rattle.cp_legend.specs.Names.{legend_seen, path_in, process_in}
use Rattle.cp_show_mark.specs.MarkText.{line_text}
use Rattle.cp_show_mark.proofs.Pieces.{also, five}
use Rattle.cp_show_mark.proofs.mark_words.push_place.Goals as goal

pub returns : goal.returns
returns c =
    let old = c.args.text.now in
    let named = c.put-2.new.self in
    let half = c.put-4.new.self in
    let lined = c.put-5.new.self in
    let number = decimal c.args.process in
    let name = path_in (process_in (legend_seen c.args.examinee.legend.now).components c.args.process) in
    let there = line_text (map string_bytes c.args.examinee.lines.now) c.args.line in
    let first = five old c.put.new.self c.put_display.new.self named c.put-3.new.self half (codes "  ") number (codes " ") name (codes " at line ") c.put.ensures c.put_display.ensures c.put-2.ensures (also named c.put-3.new.self c.process_name.ensures c.put-3.ensures) c.put-4.ensures in
    five old half c.put_display-2.new.self lined c.put-6.new.self c.put-7.new.self (codes "  " ++ number ++ codes " " ++ name ++ codes " at line ") (decimal c.args.line) (codes ": ") there (codes "\n") first c.put_display-2.ensures c.put-5.ensures (also lined c.put-6.new.self c.line.ensures c.put-6.ensures) c.put-7.ensures
