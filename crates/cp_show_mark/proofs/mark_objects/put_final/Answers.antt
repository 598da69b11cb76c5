use Rattle.std.proofs.Common.{◌∙◌, ap, map}
use Rattle.cp_story.specs.Views.{wait_of}
use Rattle.cp_show_mark.proofs.mark_objects.put_final.Goals as goal

pub returns : goal.returns
returns c = rw (ap (map wait_of) c.deref.ensures.value ∙ c.in_ok-all.ensures) at c.put_waits.ensures
