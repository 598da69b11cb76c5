-- The kinds of a text's tokens.
use Rattle.std.specs.Prelude.{List, map}
use Rattle.cp_text.specs.declared.token.Token.{Token}
use Rattle.cp_text.specs.declared.token.Kind.{Kind}

abbrev pub kinds : List Token → List Kind
kinds ts = map (λ t. t.kind) ts
