-- What the forms of expressions mention.
use Rattle.std.proofs.Common.{◌≡◌, ℕ, List, [], ◌∷◌, ◌++◌, map, ap, sym, subst, Bool, true, inl}
use Rattle.std.proofs.Common.{inr}
use Rattle.sw_tree.specs.declared.name.Name.{Name}
use Rattle.sw_typing_rules.specs.declared.scope.Var.{Var}
use Rattle.sw_isolation_rules.specs.Captures.{me_mentions, word_mentions}
use Rattle.sw_isolation_rules.specs.Noting.{Linked, Notes, Seen, NotedClosure as Inner, all_of}
use Rattle.sw_isolation_rules.specs.Noting.{await_notes, fun_notes, in_await, me_seen, member_notes}
use Rattle.sw_isolation_rules.specs.Noting.{member_seen, mention_notes, task_notes, task_races}
use Rattle.sw_isolation_rules.specs.Noting.{use_notes, used_at, value, word_notes, word_seen}
use Rattle.sw_isolation_rules.specs.Uses.{no_base}
use Rattle.sw_lower_rules.specs.Tables.{Tables}
use Rattle.sw_tree.specs.Scopes.{Scoped, Stated, both, free_word, using}
use Rattle.sw_lower_total_facts.proofs.Mentions.Notes.{in_join, in_mentioned, in_silent}
use Rattle.sw_lower_total_facts.proofs.Mentions.Seen.{IsSeen, SeenWithin, Within, selves_seen}
use Rattle.sw_lower_total_facts.proofs.Mentions.Seen.{within_both, within_joined, within_silent}
use Rattle.sw_lower_total_facts.proofs.Mentions.Silent.{await_silent, races_silent, use_silent}
use Rattle.sw_lower_total_facts.proofs.Mentions.Words.{MeansVisible, me_in, word_in}

module _ (tables : Tables) where
  -- an expression that is no place
  pub value_within : (vars : List Var) (scoped : Scoped) (at : ℕ) (notes : Notes)
      → Within tables vars scoped notes → SeenWithin tables vars scoped (value at notes)
  value_within vars scoped at notes within =
      record { notes = within; before = λ context listed. tt }

  -- words
  mention_within : (vars : List Var) (scoped : Scoped) (at : ℕ)
      → MeansVisible tables.answers vars scoped.free at
      → Within tables vars scoped
      (λ context listed. mention_notes tables.world tables.answers context at)
  mention_within vars scoped at visible context listed =
      in_mentioned (IsSeen tables context.owner vars scoped)
      (word_mentions tables.world tables.answers context.owner at)
      (word_in (IsSeen tables context.owner vars scoped) tables.world context.owner
      (selves_seen tables context.owner vars scoped) tables.answers at
      (λ key is. inr (inl (visible key is))))

  pub word_notes_within : (vars : List Var) (scoped : Scoped) (at : ℕ)
      → MeansVisible tables.answers vars scoped.free at
      → Within tables vars scoped
      (λ context listed. word_notes tables.world tables.answers context at)
  word_notes_within vars scoped at visible =
      within_both tables vars scoped
      (λ context listed. mention_notes tables.world tables.answers context at)
      (λ context listed. use_notes context at
      (used_at tables.world tables.answers context no_base at))
      (mention_within vars scoped at visible)
      (within_silent tables vars scoped _ (λ context listed. use_silent context at _))

  pub word_within : (vars : List Var) (scoped : Scoped) (at : ℕ)
      → MeansVisible tables.answers vars scoped.free at
      → SeenWithin tables vars scoped (word_seen tables.world tables.answers at)
  word_within vars scoped at visible = record {
    notes = word_notes_within vars scoped at visible;
    before = mention_within vars scoped at visible;
  }

  me_notes_within : (vars : List Var) (scoped : Scoped) (at : ℕ)
      → Within tables vars scoped (me_seen tables.world tables.answers at).notes
  me_notes_within vars scoped at context listed =
      in_mentioned (IsSeen tables context.owner vars scoped)
      (me_mentions tables.world context.owner at)
      (me_in (IsSeen tables context.owner vars scoped) tables.world context.owner
      (selves_seen tables context.owner vars scoped) at)

  pub me_within : (vars : List Var) (scoped : Scoped) (at : ℕ)
      → SeenWithin tables vars scoped (me_seen tables.world tables.answers at)
  me_within vars scoped at = record {
    notes = me_notes_within vars scoped at;
    before = me_notes_within vars scoped at;
  }

  -- members
  used_within : (vars : List Var) (scoped : Scoped) (base : Seen) (at : ℕ)
      → Within tables vars scoped
      (λ context listed. member_notes tables.world tables.answers base at context)
  used_within vars scoped base at =
      within_silent tables vars scoped _ (λ context listed. use_silent context at _)

  pub member_within : (vars : List Var) (scoped : Scoped) (base : Seen) (at : ℕ)
      → Within tables vars scoped base.notes
      → SeenWithin tables vars scoped (member_seen tables.world tables.answers base at)
  member_within vars scoped base at within = record {
    notes = within_both tables vars scoped base.notes
        (λ context listed. member_notes tables.world tables.answers base at context)
        within (used_within vars scoped base at);
    before = within;
  }

  -- calls
  pub call_within : (vars : List Var) (scoped : Scoped) (name : Name) (args : List Notes)
      → MeansVisible tables.answers vars (free_word name ∷ []) name.at
      → Within tables vars scoped (all_of args)
      → SeenWithin tables vars (both (using name) scoped) (value name.at
      (λ context listed. word_notes tables.world tables.answers context name.at
      ++ all_of args context listed))
  call_within vars scoped name args visible within =
      value_within vars (both (using name) scoped) name.at _
      (within_joined tables vars (using name) scoped
      (λ context listed. word_notes tables.world tables.answers context name.at) (all_of args)
      (word_notes_within vars (using name) name.at visible) within)

  pub method_within : (vars : List Var) (scoped more : Scoped) (base : Seen) (at : ℕ)
      (args : List Notes) → Within tables vars scoped base.notes
      → Within tables vars more (all_of args)
      → SeenWithin tables vars (both scoped more) (value at
      (λ context listed. base.notes context listed
      ++ member_notes tables.world tables.answers base at context
      ++ all_of args context listed))
  method_within vars scoped more base at args of_base of_args =
      value_within vars (both scoped more) at _
      (within_joined tables vars scoped more
      (λ context listed. base.notes context listed
      ++ member_notes tables.world tables.answers base at context) (all_of args)
      (within_both tables vars scoped base.notes
      (λ context listed. member_notes tables.world tables.answers base at context) of_base
      (used_within vars scoped base at)) of_args)

  -- operators
  pub chain_within : (vars : List Var) (scoped more : Scoped) (at : ℕ) (first : Seen)
      (rest : List Linked) → Within tables vars scoped first.notes
      → Within tables vars more (all_of (map (λ (link : Linked). link.operand) rest))
      → SeenWithin tables vars (both scoped more) (value at
      (λ context listed. first.notes context listed
      ++ all_of (map (λ (link : Linked). link.operand) rest) context listed))
  chain_within vars scoped more at first rest of_first of_rest =
      value_within vars (both scoped more) at _
      (within_joined tables vars scoped more first.notes
      (all_of (map (λ (link : Linked). link.operand) rest)) of_first of_rest)

  pub prefix_within : (vars : List Var) (scoped : Scoped) (at : ℕ) (inner : Seen)
      → Within tables vars scoped inner.notes
      → SeenWithin tables vars scoped (value at inner.notes)
  prefix_within vars scoped at inner within = value_within vars scoped at inner.notes within

  pub await_within : (vars : List Var) (scoped : Scoped) (at : ℕ) (inner : Seen)
      → Within tables vars scoped inner.notes
      → SeenWithin tables vars scoped
      (value at (λ context listed. inner.notes (in_await context) listed))
  await_within vars scoped at inner within =
      value_within vars scoped at _ (λ context listed. within (in_await context) listed)

  pub yield_within : (vars : List Var) (scoped : Scoped) (at : ℕ)
      → SeenWithin tables vars scoped
      (value at (λ context listed. await_notes context at true))
  yield_within vars scoped at =
      value_within vars scoped at _
      (within_silent tables vars scoped _ (λ context listed. await_silent context at true))

  -- closures and tasks
  pub fun_within : (vars : List Var) (scoped : Scoped) (closure : Inner)
      → Within tables vars scoped closure.inside
      → SeenWithin tables vars scoped
      (value closure.at (fun_notes tables.world tables.answers closure))
  fun_within vars scoped closure within =
      value_within vars scoped closure.at _ (λ context listed. (tt, within _ listed))

  pub spawn_within : (vars : List Var) (scoped : Scoped) (at : ℕ) (detached : Bool)
      (closure : Inner) → Within tables vars scoped closure.inside
      → SeenWithin tables vars scoped
      (value at (task_notes tables.world tables.answers at detached closure))
  spawn_within vars scoped at detached closure within =
      value_within vars scoped at _
      (λ context listed. (
        tt,
        in_join (IsSeen tables context.owner vars scoped)
            (task_races tables.world tables.answers at) _
            (in_silent _ _ (races_silent tables.world tables.answers at))
            (within _ listed),
      ))

  -- the form of an expression
  pub seen_by : (vars : List Var) (seen form : Seen) (scoped part : Scoped) → seen ≡ form
      → scoped ≡ part → SeenWithin tables vars part form → SeenWithin tables vars scoped seen
  seen_by vars seen form scoped part seen_is scoped_is within =
      subst (λ one. SeenWithin tables vars one seen) (sym scoped_is)
      (subst (SeenWithin tables vars part) (sym seen_is) within)

  pub notes_by : (vars : List Var) (notes form : Notes) (scoped part : Scoped) → notes ≡ form
      → scoped ≡ part → Within tables vars part form → Within tables vars scoped notes
  notes_by vars notes form scoped part notes_is scoped_is within =
      subst (λ one. Within tables vars one notes) (sym scoped_is)
      (subst (Within tables vars part) (sym notes_is) within)

  -- the form of a statement
  pub stmt_by : (vars : List Var) (notes form : Notes) (stated part : Stated) → notes ≡ form
      → stated ≡ part → Within tables vars part.inside form
      → Within tables vars stated.inside notes
  stmt_by vars notes form stated part notes_is stated_is within =
      notes_by vars notes form stated.inside part.inside notes_is
      (ap (λ (one : Stated). one.inside) stated_is) within
