-- What it means to take a token as a value.
use Rattle.std.specs.Prelude.{◌≡◌, ℕ, List, [], ◌∷◌}
use Rattle.sw_token.specs.Spelling.{Spelled}
use Rattle.sw_tree.specs.declared.operator.PrefixOp.{PrefixOp}
use Rattle.sw_tree.specs.declared.operator.InfixOp.{InfixOp}
use Rattle.sw_tree.specs.declared.operator.AssignOp.{AssignOp}
use Rattle.sw_grammar.specs.Tokens.{prefix_of, infix_of, assign_of}

-- `TakesAs value tokens x left`: the first of the tokens is taken, `x` is its value, and these are
-- left.
abbrev pub TakesAs : {A : Type 0} → (Spelled → A) → List Spelled → A → List Spelled → Type 0
TakesAs value [] x left = ⊥
TakesAs value (first ∷ others) x left = (x ≡ value first) × (left ≡ others)

-- an operator, and where it stands

abbrev pub infix_value : Spelled → InfixOp × ℕ
infix_value token = (infix_of token.text, token.at)

abbrev pub prefix_value : Spelled → PrefixOp × ℕ
prefix_value token = (prefix_of token.text, token.at)

abbrev pub assign_value : Spelled → AssignOp × ℕ
assign_value token = (assign_of token.text, token.at)
