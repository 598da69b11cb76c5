-- The end of the innermost call on a control stack.
use Rattle.std.proofs.Common.{◌≡◌, ◌∙◌, ◌<◌, List, ◌∷◌, length, Option, Some, None, true, false, ap, sym, arith}
use Rattle.cp_machine.proofs.Words.{Entry, Rest, Successor, above, from_end, is_inner}

-- where the topmost entry is the end, nothing stands above it
pub end_on_top : (o : Option Entry) (es fs : List Entry) → es ≡ above o fs → is_inner o ≡ false → from_end es ≡ es
end_on_top (Some (Rest at)) es fs e h = absurd (cc)
end_on_top (Some (Successor at z last)) es fs e h = absurd (cc)
end_on_top _ es fs e h = ap from_end e ∙ sym e

pub end_below : (o : Option Entry) (es fs : List Entry) → es ≡ above o fs → is_inner o ≡ true → from_end es ≡ from_end fs
end_below (Some (Rest at)) es fs e h = ap from_end e
end_below (Some (Successor at z last)) es fs e h = ap from_end e
end_below _ es fs e h = absurd (cc)

pub inner_is_some : (o : Option Entry) (es fs : List Entry) → es ≡ above o fs → is_inner o ≡ true → 0 < length es
inner_is_some None es fs e h = absurd (cc)
inner_is_some (Some x) es fs e h = let long : length es ≡ length (x ∷ fs) = ap length e in omega (arith, long)
