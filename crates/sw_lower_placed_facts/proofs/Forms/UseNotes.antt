-- What is used at a node is noted there, and nothing else is of a kind there.
use Rattle.std.proofs.Common.{◌≡◌, ℕ, List, ap, ◌∙◌}
use Rattle.sw_tree.proofs.FoldEquations as eq
use Rattle.sw_tree.specs.declared.expr.Arg.{Arg}
use Rattle.sw_tree.specs.declared.expr.Expr.{Expr}
use Rattle.sw_tree.specs.declared.expr.Expr.TheVariants as exprs
use Rattle.sw_tree.specs.declared.name.Name.{Name}
use Rattle.sw_typing_rules.specs.Worlds.{World}
use Rattle.sw_typing_rules.specs.declared.scope.Var.{Var}
use Rattle.sw_isolation_rules.specs.Answers.{Answers}
use Rattle.sw_isolation_rules.specs.Captures.{word_mentions}
use Rattle.sw_isolation_rules.specs.Noting.{member_notes, mention_notes, note_steps, see, use_notes}
use Rattle.sw_isolation_rules.specs.Noting.{used_at, word_notes}
use Rattle.sw_isolation_rules.specs.Uses.{base_of, no_base}
use Rattle.sw_isolation_rules.specs.declared.note.Note.{Note}
use Rattle.sw_isolation_rules.specs.declared.uses.Context.{Context}
use Rattle.sw_isolation_rules.specs.declared.uses.Used.{Used}
use Rattle.sw_lower_total_facts.specs.Known.{TablesAgree}
use Rattle.sw_lower_total_facts.specs.Noted.{kinds_of}
use Rattle.sw_lower_total_facts.proofs.Expressions.Kinds.{kind_at_use, kinds_after, mentions_no_kinds}
use Rattle.sw_lower_total_facts.proofs.Standing.NoteForms as noted
use Rattle.sw_lower_total_facts.proofs.Standing.NoteForms.{args_notes, expr_notes}
use Rattle.sw_lower_total_facts.proofs.Standing.Own.{call_kinds, member_kinds, method_kinds, use_kinds}
use Rattle.sw_lower_placed_facts.specs.Claims.{AreNoted, ExprNoted}
use Rattle.sw_lower_placed_facts.specs.Hosts.{Program}
use Rattle.sw_lower_placed_facts.proofs.Forms.Noted.{noted_by}
use Rattle.sw_lower_placed_facts.proofs.Uses.Noted.{noted_left, noted_right}
use Rattle.sw_lower_placed_facts.proofs.Uses.Using.{IsUsed}

module _ (program : Program) (known : TablesAgree program.tables program.numbers program.notes)
    (context : Context) (listed : List ℕ) (vars : List Var) where
  abbrev world : World
  world = program.tables.world

  abbrev answers : Answers
  answers = program.tables.answers

  -- the use of a word, and that of a member
  abbrev word_use : ℕ → Used
  word_use at = used_at world answers context no_base at

  abbrev member_use : Expr → ℕ → Used
  member_use base at =
      used_at world answers context
      (base_of answers (see world answers base).key (see world answers base).is_self) at

  abbrev mentions_at : ℕ → List Note
  mentions_at at = mention_notes world answers context at

  -- what is noted of a word
  word_used_by : (at : ℕ) → AreNoted program (word_notes world answers context at)
      → kinds_of at program.notes ≡ kinds_of at (word_notes world answers context at)
      → IsUsed program context at (word_use at)
  word_used_by at noted same = record {
    noted = noted_right program (mentions_at at) (use_notes context at (word_use at)) noted;
    kind = kind_at_use program.tables program.numbers program.notes known context at (word_use at)
        (same
        ∙ kinds_after at (mentions_at at) (use_notes context at (word_use at))
        (mentions_no_kinds at (word_mentions world answers context.owner at)));
  }

  notes_use : (name : Name)
      → expr_notes world answers context listed (exprs.Use name)
      ≡ word_notes world answers context name.at
  unfolding see
  notes_use name =
      ap (λ s. s.notes context listed) (eq.fold_expr-Use (note_steps world answers) name)

  pub word_used : (name : Name) → ExprNoted program context listed vars (exprs.Use name)
      → IsUsed program context name.at (word_use name.at)
  word_used name whole =
      word_used_by name.at (noted_by program _ _ (notes_use name) whole.noted)
      (use_kinds world answers context listed program.notes _ _ name whole.stands
      ∙ ap (kinds_of name.at) (notes_use name))

  pub call_used : (name : Name) (args : List Arg)
      → ExprNoted program context listed vars (exprs.Call name args)
      → IsUsed program context name.at (word_use name.at)
  call_used name args whole =
      word_used_by name.at
      (noted_left program (word_notes world answers context name.at)
      (args_notes world answers args context listed)
      (noted_by program _ _ (noted.notes-Call world answers context listed name args)
      whole.noted))
      (call_kinds world answers context listed program.notes _ _ name args whole.stands)

  -- what is noted of a member
  pub member_used : (base : Expr) (name : Name)
      → ExprNoted program context listed vars (exprs.Member base name)
      → IsUsed program context name.at (member_use base name.at)
  member_used base name whole = record {
    noted = noted_right program (expr_notes world answers context listed base)
        (member_notes world answers (see world answers base) name.at context)
        (noted_by program _ _ (noted.notes-Member world answers context listed base name)
        whole.noted);
    kind = kind_at_use program.tables program.numbers program.notes known context name.at
        (member_use base name.at)
        (member_kinds world answers context listed program.notes _ _ base name whole.stands);
  }

  pub method_used : (base : Expr) (name : Name) (args : List Arg)
      → ExprNoted program context listed vars (exprs.Method base name args)
      → IsUsed program context name.at (member_use base name.at)
  method_used base name args whole = record {
    noted = noted_right program (expr_notes world answers context listed base)
        (member_notes world answers (see world answers base) name.at context)
        (noted_left program _ (args_notes world answers args context listed)
        (noted_by program _ _ (noted.notes-Method world answers context listed base name args)
        whole.noted));
    kind = kind_at_use program.tables program.numbers program.notes known context name.at
        (member_use base name.at)
        (method_kinds world answers context listed program.notes _ _ base name args whole.stands);
  }
