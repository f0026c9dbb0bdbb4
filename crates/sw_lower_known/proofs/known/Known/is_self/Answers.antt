use Rattle.std.proofs.Common.{◌≡◌, ◌∙◌, ◌||◌, ℕ, [], ◌∷◌, Option, None, Some, Bool, true, false}
use Rattle.std.proofs.Common.{nat_eq, ap, refl}
use Rattle.std.specs.Option.{option_eq, option_map}
use Rattle.sw_types.specs.declared.shape.Shape.{Shape}
use Rattle.sw_isolation_rules.specs.Answers.{for_some}
use Rattle.sw_isolation_rules.specs.Captures.{is_among}
use Rattle.sw_lower_known.specs.Knowledge.{tables_by}
use Rattle.sw_lower_rules.specs.Uses.{self_key}
use Rattle.sw_lower_known.proofs.known.Known.is_self.Goals as goal

alone : (same : Bool) → same ≡ (same || false)
alone true = refl
alone false = refl

-- A key is the only one of a list where it is the one that there is.
is_only : (shape : Option Shape) (key : ℕ)
    → option_eq nat_eq (option_map (λ (one : Shape). one.at) shape) (Some key)
    ≡ is_among (for_some shape (λ (one : Shape). one.at ∷ [])) key
is_only None key = refl
is_only (Some shape) key = alone (nat_eq shape.at key)

pub returns : goal.returns
unfolding tables_by self_key
returns c =
    c.eq.ensures
    ∙ ap (λ (own : Option ℕ). option_eq nat_eq own (Some c.args.key)) c.self_key.ensures
    ∙ is_only _ c.args.key
