-- A program without an ill node: all that its bodies and first values hold has types.
use Rattle.std.proofs.Common.{◌≡◌, ℕ, true, List, [], ◌∷◌, Option, None, is_some}
use Rattle.std.proofs.Common.{Contains, map, refl, arith}
use Rattle.std.proofs.lemmas.List.Elements.{Contains-append_left, Contains-append_right}
use Rattle.sw_tree.specs.declared.decl.Decl.{Decl}
use Rattle.sw_tree.specs.declared.decl.ParamTree.{ParamTree}
use Rattle.sw_types.specs.Accepts.{is_marked}
use Rattle.sw_typing_rules.specs.Expressions.{Judged}
use Rattle.sw_typing_rules.specs.Judges.{Judges, LeavesBlock}
use Rattle.sw_typing_rules.specs.Programs.{BodyOf, ValueOf, of_body, of_value, IsFirstIll}
use Rattle.sw_typing_rules.specs.Programs.{bodies_from, values_from, body_state, value_setting}
use Rattle.sw_typing_rules.specs.Programs.{params_of, param_var}
use Rattle.sw_typing_rules.specs.Statements.{Left, in_body, lacks_result, refused, vars_rows}
use Rattle.sw_typing_rules.specs.Typedness.{vars_typed, state_typed}
use Rattle.sw_typing_rules.specs.Verdicts.{all_well, ill_if}
use Rattle.sw_typing_rules.specs.Worlds.{World}
use Rattle.sw_typing_rules.specs.declared.row.Row.{Row}
use Rattle.sw_typing_rules.specs.declared.row.Row.TheVariants.{Typed, Means, Ill}
use Rattle.sw_typing_rules.proofs.Steps.{and_both}
use Rattle.sw_typing_rules.proofs.Welltyped.{typed_expr, fine_block}

well_rows : (rows : List Row)
    → ((at code : ℕ) (unless : Option ℕ) → Contains rows (Ill at code unless) → ⊥)
    → all_well rows ≡ true
well_rows [] none = refl
well_rows (Typed at ty ∷ rows) none =
    well_rows rows (λ a c u has. none a c u (Contains-append_right (Typed at ty ∷ []) rows
    (Ill a c u) has))
well_rows (Means at meaning ∷ rows) none =
    well_rows rows
    (λ a c u has. none a c u (Contains-append_right (Means at meaning ∷ []) rows (Ill a c u) has))
well_rows (Ill at code unless ∷ rows) none =
    absurd (none at code unless (0, (omega arith), refl))

params_typed : (world : World) (params : List ParamTree)
    → vars_typed (map (param_var world) params) ≡ true
params_typed world [] = refl
params_typed world (param ∷ params) = params_typed world params

begins_typed : (world : World) (body : BodyOf) → state_typed (body_state world body) ≡ true
begins_typed world body = and_both _ true (params_typed world body.params) refl

module _ (world : World) (decls : List Decl) (none : IsFirstIll world decls None) where
  pub well_body : (body : BodyOf) (left : Left) → Contains (bodies_from world 0 decls) body
      → LeavesBlock world (in_body body.owner body.init) (body_state world body) body.block left
      → left.fine ≡ true
  well_body body left is leaves =
      (fine_block world (in_body body.owner body.init)
      (body_state world body) body.block left leaves
      (begins_typed world body)
      (well_rows left.rows (λ at code unless has. none at code (
        unless,
        of_body body left (Ill at code unless) is leaves
            (Contains-append_right (vars_rows (params_of world body)) _ (Ill at code unless)
            (Contains-append_left left.rows (ill_if (lacks_result left) body.at 406)
            (Ill at code unless) has)),
      )))).0

  pub well_value : (value : ValueOf) (judged : Judged)
      → Contains (values_from world 0 decls) value
      → Judges world (value_setting value) (is_marked value.wanted) value.value judged
      → is_some judged.ty ≡ true
  well_value value judged is judges =
      typed_expr world (value_setting value) (is_marked value.wanted) value.value judged judges refl
      (well_rows judged.rows (λ at code unless has. none at code (
        unless,
        of_value value judged (Ill at code unless) is judges
            (Contains-append_left judged.rows (refused value.at judged.ty value.wanted)
            (Ill at code unless) has),
      )))
