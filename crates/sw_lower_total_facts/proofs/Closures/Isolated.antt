-- A closure or a task is isolated to `self` only where the body around it is.
use Rattle.std.proofs.Common.{◌≡◌, ℕ, Bool, true, false, cond, Option, Some, None}
use Rattle.std.proofs.lemmas.Bool.{false≢true}
use Rattle.sw_tree.specs.declared.name.Name.{Name}
use Rattle.sw_types.specs.declared.isolation.Iso.{Iso}
use Rattle.sw_types.specs.declared.isolation.Iso.TheVariants as iso
use Rattle.sw_decl_words.specs.Shaped.{actor_of}
use Rattle.sw_decls.specs.Signatures.{actor_iso}
use Rattle.sw_typing_rules.specs.Statements.{marked_type}
use Rattle.sw_typing_rules.specs.Worlds.{World}
use Rattle.sw_isolation_rules.specs.Answers.{Answers}
use Rattle.sw_isolation_rules.specs.Kinds.{inherited, is_own}
use Rattle.sw_isolation_rules.specs.Noting.{closure_iso, task_iso}

-- what is inherited
inherited_own : (around : Iso) → is_own (inherited around) ≡ true → is_own around ≡ true
inherited_own iso.Free own = absurd (false≢true own)
inherited_own iso.Own own = own
inherited_own (iso.Global actor) own = absurd (false≢true own)
inherited_own iso.Caller own = absurd (false≢true own)

either_own : (sent : Bool) (around : Iso) → is_own (cond sent iso.Free (inherited around)) ≡ true
    → is_own around ≡ true
either_own true around own = absurd (false≢true own)
either_own false around own = inherited_own around own

-- what a global actor isolates
never_own : (actor : Option ℕ) (around : Iso) → is_own (actor_iso actor) ≡ true
    → is_own around ≡ true
never_own None around own = absurd (false≢true own)
never_own (Some number) around own = absurd (false≢true own)

module _ (world : World) (answers : Answers) where
  pub closure_own : (at : ℕ) (around : Iso)
      → is_own (closure_iso answers at around) ≡ true → is_own around ≡ true
  unfolding closure_iso
  closure_own at around own = either_own (marked_type (answers.type_at at)) around own

  pub task_own : (mark : Option Name) (detached : Bool) (around : Iso)
      → is_own (task_iso world mark detached around) ≡ true → is_own around ≡ true
  unfolding task_iso
  task_own None true around own = absurd (false≢true own)
  task_own None false around own = inherited_own around own
  task_own (Some mark) detached around own =
      never_own (actor_of (world.known.top mark.id)) around own
