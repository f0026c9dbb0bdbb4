-- A type that is found by a key is said of it.
use Rattle.std.proofs.Common.{◌≡◌, ℕ, List, [], ◌∷◌, Bool, true, false, Contains, Some, None, subst}
use Rattle.std.proofs.Common.{arith, refl}
use Rattle.std.proofs.lemmas.List.Elements.{Contains-append_left, Contains-append_right}
use Rattle.std.specs.Prelude.{◌==◌, if◌then◌else◌}
use Rattle.sw_types.specs.declared.ty.Ty.{Ty}
use Rattle.sw_decl_words.specs.Words.{or_else}
use Rattle.sw_tree.specs.declared.decl.Decl.{Decl}
use Rattle.sw_typing_rules.specs.Programs.{HasType, said}
use Rattle.sw_typing_rules.specs.Worlds.{World}
use Rattle.sw_typing_rules.specs.declared.row.Row.{Row}
use Rattle.sw_typing_rules.specs.declared.row.Row.TheVariants.{Ill, Means, Typed}
use Rattle.sw_typing_rules.proofs.Saying.{is_said}
use Rattle.sw_isolation_rules.specs.Answers.{answers_in, type_in}
use Rattle.sw_typing_facts.proofs.Lists.Listed.{in_first}

type_is_in : (rows : List Row) (key : ℕ) (ty : Ty) → type_in rows key ≡ Some ty
    → Contains rows (Typed key ty)
type_is_in [] key ty is = cc
type_is_in (Means at meaning ∷ rows) key ty is =
    Contains-append_right (Means at meaning ∷ []) rows (Typed key ty) (type_is_in rows key ty is)
type_is_in (Ill at code unless ∷ rows) key ty is =
    Contains-append_right (Ill at code unless ∷ []) rows (Typed key ty) (type_is_in rows key ty is)
type_is_in (Typed at other ∷ rows) key ty is =
    by (at == key) refl is (type_is_in rows key ty) where
      by : (same : Bool) → (at == key) ≡ same
          → or_else (if same then Some other else None) (type_in rows key) ≡ Some ty
          → (type_in rows key ≡ Some ty → Contains rows (Typed key ty))
          → Contains (Typed at other ∷ rows) (Typed key ty)
      by true here is later =
          let at_is : at ≡ key = grind (arith, here) in
          let ty_is : other ≡ ty = cc in
          subst (λ k. Contains (Typed at other ∷ rows) (Typed k ty)) at_is
          (subst (λ t. Contains (Typed at other ∷ rows) (Typed at t)) ty_is
          (Contains-append_left (Typed at other ∷ []) rows (Typed at other)
          (in_first (Typed at other) [])))
      by false here is later =
          Contains-append_right (Typed at other ∷ []) rows (Typed key ty) (later is)

-- A type that is found by a key is said of it.
pub type_is_said : (world : World) (decls : List Decl) (key : ℕ) (ty : Ty)
    → (answers_in (said world decls)).type_at key ≡ Some ty → HasType world decls key ty
type_is_said world decls key ty is =
    is_said world decls (Typed key ty) (type_is_in (said world decls) key ty is)
