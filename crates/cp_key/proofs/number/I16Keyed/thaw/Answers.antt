use Rattle.std.proofs.Common.{◌≡◌, ◌∙◌, ◌++◌, arith, rules, w16}
use Rattle.std.proofs.lemmas.Int.{to_z-of_z}
use mir.Val.{SFits}
use Rattle.cp_key.specs.Numbers.{digits, place_of}
use Rattle.cp_key.proofs.NumberKeys.{far_of_first}
use Rattle.cp_key.proofs.number.I16Keyed.thaw.Goals as goal

pub returns-in-255 : goal.returns-in-255
returns-in-255 c x more e =
    let is : c.byte.result ≡ 255 = omega (arith, c.in-255.is) in
    let rest = c.byte.ensures 255 (digits 1 (place_of x) ++ more) (far_of_first x _ more c.byte.result e (λ byte rest h. (c.byte.ensures byte rest h).0) is) in
    let place = c.thaw_pair.ensures (place_of x) more rest.1 in
    let fits : SFits w16 c.at_place.result = search rules in
    (to_z-of_z w16 c.at_place.result fits ∙ c.at_place.ensures x place.0, place.1)
