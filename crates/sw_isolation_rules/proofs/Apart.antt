-- Closures and tasks are never isolated as their caller.
use Rattle.std.proofs.Common.{◌≡◌, ◌≢◌, ℕ, Bool, false, true, cond, Option, Some, None, ap, sym}
use Rattle.std.proofs.Common.{refl, ◌∙◌}
use Rattle.std.proofs.lemmas.Bool.{false≢true}
use Rattle.sw_tree.specs.declared.name.Name.{Name}
use Rattle.sw_types.specs.declared.isolation.Iso.{Iso}
use Rattle.sw_types.specs.declared.isolation.Iso.TheVariants as iso
use Rattle.sw_decl_words.specs.Shaped.{actor_of}
use Rattle.sw_decls.specs.Signatures.{actor_iso}
use Rattle.sw_typing_rules.specs.Statements.{marked_type}
use Rattle.sw_typing_rules.specs.Worlds.{World}
use Rattle.sw_isolation_rules.specs.Answers.{Answers}
use Rattle.sw_isolation_rules.specs.Kinds.{inherited, is_own}
use Rattle.sw_isolation_rules.specs.Noting.{closure_iso, task_iso}

abbrev is_caller : Iso → Bool
is_caller iso.Free = false
is_caller iso.Own = false
is_caller (iso.Global actor) = false
is_caller iso.Caller = true

differs : (one : Iso) → is_caller one ≡ false → one ≢ iso.Caller
differs one is same = false≢true (sym is ∙ ap is_caller same)

inherited_apart : (around : Iso) → is_caller (inherited around) ≡ false
inherited_apart iso.Free = refl
inherited_apart iso.Own = refl
inherited_apart (iso.Global actor) = refl
inherited_apart iso.Caller = refl

actor_apart : (actor : Option ℕ) → is_caller (actor_iso actor) ≡ false
actor_apart None = refl
actor_apart (Some number) = refl

either_apart : (is : Bool) (around : Iso)
    → is_caller (cond is iso.Free (inherited around)) ≡ false
either_apart true around = refl
either_apart false around = inherited_apart around

own_from : (around : Iso) → inherited around ≡ iso.Own → around ≡ iso.Own
own_from iso.Free same = absurd (false≢true (ap is_own same))
own_from iso.Own same = refl
own_from (iso.Global actor) same = absurd (false≢true (ap is_own same))
own_from iso.Caller same = absurd (false≢true (ap is_own same))

never_own : (actor : Option ℕ) → actor_iso actor ≡ iso.Own → ⊥
never_own None same = false≢true (ap is_own same)
never_own (Some number) same = false≢true (ap is_own same)

inherited_within : (around : Iso) → inherited around ≢ iso.Free → inherited around ≡ around
inherited_within iso.Free not = absurd (not refl)
inherited_within iso.Own not = refl
inherited_within (iso.Global actor) not = refl
inherited_within iso.Caller not = absurd (not refl)

either_within : (is : Bool) (around : Iso) → cond is iso.Free (inherited around) ≢ iso.Free
    → cond is iso.Free (inherited around) ≡ around
either_within true around not = absurd (not refl)
either_within false around not = inherited_within around not

module _ (answers : Answers) where
  pub closure_within : (at : ℕ) (around : Iso) → closure_iso answers at around ≢ iso.Free
      → closure_iso answers at around ≡ around
  unfolding closure_iso
  closure_within at around not = either_within (marked_type (answers.type_at at)) around not

  pub closure_apart : (at : ℕ) (around : Iso) → closure_iso answers at around ≢ iso.Caller
  unfolding closure_iso
  closure_apart at around =
      differs (cond (marked_type (answers.type_at at)) iso.Free (inherited around))
      (either_apart (marked_type (answers.type_at at)) around)

module _ (world : World) where
  pub task_within : (mark : Option Name) (detached : Bool) (around : Iso)
      → task_iso world mark detached around ≡ iso.Own → around ≡ iso.Own
  unfolding task_iso
  task_within None true around same = absurd (false≢true (ap is_own same))
  task_within None false around same = own_from around same
  task_within (Some mark) detached around same =
      absurd (never_own (actor_of (world.known.top mark.id)) same)

  pub task_apart : (mark : Option Name) (detached : Bool) (around : Iso)
      → task_iso world mark detached around ≢ iso.Caller
  unfolding task_iso
  task_apart None true around = differs iso.Free refl
  task_apart None false around = differs (inherited around) (inherited_apart around)
  task_apart (Some mark) detached around =
      differs (actor_iso (actor_of (world.known.top mark.id)))
      (actor_apart (actor_of (world.known.top mark.id)))
