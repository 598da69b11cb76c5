use Rattle.cp_layers.proofs.Leading.{places_are, word_read, word_there}
use Rattle.cp_layers.proofs.layer.Layer.word.Goals as goal

pub returns-in-Some : goal.returns-in-Some
returns-in-Some c = λ sys steps key m h at is.
    (let place = places_are sys steps c.args.length c.args.number c.saturating_mul-start.result c.saturating_add.result c.ranges.number.fits c.ranges.length.fits c.saturating_mul-start.ensures c.saturating_add.ensures in
    word_read sys steps c.args.length c.args.self.now.known.keys c.args.self.now.words.items c.deref.result.now c.in-Some.word.now c.args.number c.saturating_mul-start.result c.saturating_add.result key m c.deref.ensures.value place c.in-Some.ensures.lookup.0.2 h at is)

pub returns-in-None : goal.returns-in-None
returns-in-None c = λ sys steps key m h at is.
    (let place = places_are sys steps c.args.length c.args.number c.saturating_mul-start.result c.saturating_add.result c.ranges.number.fits c.ranges.length.fits c.saturating_mul-start.ensures c.saturating_add.ensures in
    absurd (word_there sys steps c.args.length c.args.self.now.known.keys c.args.self.now.words.items c.deref.result.now c.args.number c.saturating_mul-start.result c.saturating_add.result key c.deref.ensures.value place c.in-None.ensures.lookup.0 h at))
