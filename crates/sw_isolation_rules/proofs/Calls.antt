-- Each call has a kind, and so has each read of a `var` of another actor.
use Rattle.std.proofs.Common.{◌≡◌, ℕ, Bool, true, false, not, ◌&&◌, cond, List, [], ◌∷◌, ◌++◌, map}
use Rattle.std.proofs.Common.{Contains, sym, subst, refl, arith}
use Rattle.std.proofs.lemmas.List.Concat.{flat_map-append}
use Rattle.std.proofs.lemmas.List.Elements.{Contains-append_left, Contains-append_right}
use Rattle.sw_tree.proofs.FoldEquations as eq
use Rattle.sw_tree.specs.Folds.{fold_expr, fold_arg}
use Rattle.sw_tree.specs.declared.expr.Arg.{Arg}
use Rattle.sw_tree.specs.declared.expr.Expr.{Expr}
use Rattle.sw_tree.specs.declared.expr.Expr.TheVariants as exprs
use Rattle.sw_tree.specs.declared.name.Name.{Name}
use Rattle.sw_types.specs.declared.isolation.CallKind.{CallKind}
use Rattle.sw_types.specs.declared.isolation.CallKind.TheVariants.{Make, Plain, Same, Strong, Weak}
use Rattle.sw_typing_rules.specs.Worlds.{World}
use Rattle.sw_isolation_rules.specs.Answers.{Answers}
use Rattle.sw_isolation_rules.specs.CallKeys.{is_called}
use Rattle.sw_isolation_rules.specs.Kinds.{accessor, is_outside, is_strong, kind_of}
use Rattle.sw_isolation_rules.specs.Lists.{kind_in, kinds_in}
use Rattle.sw_isolation_rules.specs.Noting.{see, note_steps, use_notes, used_at, mention_notes}
use Rattle.sw_isolation_rules.specs.Noting.{member_notes, word_notes, all_of, Seen, call_notes}
use Rattle.sw_isolation_rules.specs.Noting.{race_if}
use Rattle.sw_isolation_rules.specs.Uses.{no_base, base_of, used}
use Rattle.sw_isolation_rules.specs.declared.note.Kinded.{Kinded}
use Rattle.sw_isolation_rules.specs.declared.note.Note.{Note}
use Rattle.sw_isolation_rules.specs.declared.uses.Callee.{Callee}
use Rattle.sw_isolation_rules.specs.declared.uses.Context.{Context}
use Rattle.sw_isolation_rules.specs.declared.uses.Storage.{Storage}
use Rattle.sw_isolation_rules.specs.declared.uses.Used.{Used}
use Rattle.sw_isolation_rules.specs.declared.uses.Used.TheVariants.{Called, Stored}

abbrev HasKind : List Note → Kinded → Type 0
HasKind notes kinded = Contains (kinds_in notes) kinded

left : (one other : List Note) (kinded : Kinded) → HasKind one kinded
    → HasKind (one ++ other) kinded
left one other kinded has =
    subst (λ list. Contains list kinded) (sym (flat_map-append kind_in one other))
    (Contains-append_left (kinds_in one) (kinds_in other) kinded has)

right : (one other : List Note) (kinded : Kinded) → HasKind other kinded
    → HasKind (one ++ other) kinded
right one other kinded has =
    subst (λ list. Contains list kinded) (sym (flat_map-append kind_in one other))
    (Contains-append_right (kinds_in one) (kinds_in other) kinded has)

abbrev kinded_at : Context → ℕ → Callee → Kinded
kinded_at context at callee = record { at = at; kind = kind_of callee context.iso }

called_has : (context : Context) (at : ℕ) (callee : Callee) (sends : Bool)
    → HasKind (use_notes context at (Called callee sends)) (kinded_at context at callee)
called_has context at callee sends =
    Contains-append_left (kinded_at context at callee ∷ []) _ (kinded_at context at callee)
    (0, (omega arith), refl)

use_has : (context : Context) (at : ℕ) (used : Used) (callee : Callee) (sends : Bool)
    → used ≡ Called callee sends → HasKind (use_notes context at used) (kinded_at context at callee)
use_has context at used callee sends is =
    subst (λ one. HasKind (use_notes context at one) (kinded_at context at callee)) (sym is)
    (called_has context at callee sends)

strong_is : (kind : CallKind) → is_strong kind ≡ true → kind ≡ Strong
strong_is Plain is = cc
strong_is Same is = cc
strong_is Weak is = cc
strong_is Strong is = refl
strong_is Make is = cc

abbrev strong_at : ℕ → Kinded
strong_at at = record { at = at; kind = Strong }

-- a read of a `var` of another actor is a call of its getter
stored_has : (context : Context) (at : ℕ) (storage : Storage)
    → is_called context storage ≡ true
    → HasKind (use_notes context at (Stored storage)) (strong_at at)
stored_has context at storage = by (is_outside context storage) storage.mutable refl where
  by : (outside mutable : Bool) → is_outside context storage ≡ outside
      → (outside && mutable) ≡ true
      → HasKind (cond outside
      (cond mutable (call_notes context at (accessor storage) storage.may_cross)
      (race_if (not storage.may_cross) at 606)) []) (strong_at at)
  by true true outside is =
      subst (λ (kind : CallKind). HasKind
      (call_notes context at (accessor storage) storage.may_cross)
      (record { at = at; kind = kind }))
      (strong_is (kind_of (accessor storage) context.iso) outside)
      (called_has context at (accessor storage) storage.may_cross)
  by true false outside is = cc
  by false mutable outside is = cc

read_has : (context : Context) (at : ℕ) (used : Used) (storage : Storage)
    → used ≡ Stored storage → is_called context storage ≡ true
    → HasKind (use_notes context at used) (strong_at at)
read_has context at used storage is crosses =
    subst (λ one. HasKind (use_notes context at one) (strong_at at)) (sym is)
    (stored_has context at storage crosses)

module _ (world : World) (answers : Answers) (context : Context) (listed : List ℕ) where
  pub call_has_kind : (name : Name) (args : List Arg) (callee : Callee) (sends : Bool)
      → used world answers context.owner no_base name.at ≡ Called callee sends
      → Contains (kinds_in ((see world answers (exprs.Call name args)).notes context listed))
      (record { at = name.at; kind = kind_of callee context.iso })
  unfolding see
  call_has_kind name args callee sends is =
      subst (λ (seen : Seen). HasKind (seen.notes context listed)
      (kinded_at context name.at callee))
      (sym (eq.fold_expr-Call (note_steps world answers) name args))
      (left (word_notes world answers context name.at)
      (all_of (map (fold_arg (note_steps world answers)) args) context listed) _
      (right (mention_notes world answers context name.at) _ _
      (use_has context name.at (used_at world answers context no_base name.at) callee sends is)))

  pub method_has_kind : (base : Expr) (name : Name) (args : List Arg) (callee : Callee)
      (sends : Bool)
      → used world answers context.owner
      (base_of answers (see world answers base).key (see world answers base).is_self) name.at
      ≡ Called callee sends
      → Contains (kinds_in ((see world answers (exprs.Method base name args)).notes context listed))
      (record { at = name.at; kind = kind_of callee context.iso })
  unfolding see
  method_has_kind base name args callee sends is =
      let seen = fold_expr (note_steps world answers) base in
      subst (λ (seen : Seen). HasKind (seen.notes context listed)
      (kinded_at context name.at callee))
      (sym (eq.fold_expr-Method (note_steps world answers) base name args))
      (left (seen.notes context listed ++ member_notes world answers seen name.at context)
      (all_of (map (fold_arg (note_steps world answers)) args) context listed) _
      (right (seen.notes context listed) _ _
      (use_has context name.at
      (used_at world answers context (base_of answers seen.key seen.is_self) name.at) callee sends
      is)))

  pub word_has_kind : (name : Name) (storage : Storage)
      → used world answers context.owner no_base name.at ≡ Stored storage
      → is_called context storage ≡ true
      → Contains (kinds_in ((see world answers (exprs.Use name)).notes context listed))
      (record { at = name.at; kind = Strong })
  unfolding see
  word_has_kind name storage is crosses =
      subst (λ (seen : Seen). HasKind (seen.notes context listed) (strong_at name.at))
      (sym (eq.fold_expr-Use (note_steps world answers) name))
      (right (mention_notes world answers context name.at) _ _
      (read_has context name.at (used_at world answers context no_base name.at) storage is
      crosses))

  pub member_has_kind : (base : Expr) (name : Name) (storage : Storage)
      → used world answers context.owner
      (base_of answers (see world answers base).key (see world answers base).is_self) name.at
      ≡ Stored storage
      → is_called context storage ≡ true
      → Contains (kinds_in ((see world answers (exprs.Member base name)).notes context listed))
      (record { at = name.at; kind = Strong })
  unfolding see
  member_has_kind base name storage is crosses =
      let seen = fold_expr (note_steps world answers) base in
      subst (λ (seen : Seen). HasKind (seen.notes context listed) (strong_at name.at))
      (sym (eq.fold_expr-Member (note_steps world answers) base name))
      (right (seen.notes context listed) _ _
      (read_has context name.at
      (used_at world answers context (base_of answers seen.key seen.is_self) name.at) storage is
      crosses))
