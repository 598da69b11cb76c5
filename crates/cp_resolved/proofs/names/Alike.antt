-- What is inside equal options is equal.
use Rattle.std.proofs.Common.{◌≡◌, Some}

pub same_inside : {A : Type 0} (x y : A) → Some x ≡ Some y → x ≡ y
same_inside x y h = cc
