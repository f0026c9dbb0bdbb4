-- Literals, words, `self` and `Task.yield()`.
use Rattle.std.proofs.Common.{◌≡◌, ℕ, ℤ, Bool, true, false, [], Some}
use Rattle.std.proofs.Common.{refl, ap, sym, ◌∙◌, subst}
use Rattle.std.proofs.lemmas.Bool.{false≢true}
use Rattle.std.proofs.lemmas.List.Elements.{All-nil}
use Rattle.sw_tree.specs.declared.name.Name.{Name}
use Rattle.sw_tree.specs.declared.expr.Expr.TheVariants as exprs
use Rattle.sw_tree.proofs.FoldEquations as eq
use Rattle.sw_types.specs.declared.ty.Ty.TheVariants as types
use Rattle.sw_graph.specs.declared.instr.Instr.TheVariants as instr
use Rattle.sw_graph.specs.declared.instr.Literal.TheVariants as literals
use Rattle.sw_graph.specs.declared.instr.Operand.{Operand}
use Rattle.sw_decl_words.specs.declared.words.Meaning.TheVariants as word
use Rattle.sw_typing_rules.specs.Expressions.{sensed}
use Rattle.sw_typing_rules.specs.Judges as is
use Rattle.sw_typing_rules.specs.Words.{Nothing, OwnCase, OwnMethod, OwnProperty, Printing, Sense}
use Rattle.sw_typing_rules.specs.Words.{Setting, Top, Variable, is_var_part, sense}
use Rattle.sw_typing_rules.specs.Words.{word_settable}
use Rattle.sw_typing_rules.specs.Worlds.{is_object, part_at}
use Rattle.sw_typing_rules.specs.declared.row.Meaning.{Meaning}
use Rattle.sw_typing_rules.specs.declared.row.Meaning.TheVariants as means
use Rattle.sw_typing_rules.proofs.Steps.{and_left, and_right}
use Rattle.sw_isolation_rules.specs.Noting.{note_steps, see, store_notes, used_at}
use Rattle.sw_isolation_rules.specs.Uses.{meant, no_base, part_used}
use Rattle.sw_isolation_rules.specs.declared.uses.Context.{Context}
use Rattle.sw_isolation_rules.specs.declared.uses.Used.{Used}
use Rattle.sw_lower_rules.specs.Expressions.{self_code, value, word_code, word_write}
use Rattle.sw_lower_rules.specs.Statements.{code_steps, expr_code}
use Rattle.sw_lower_rules.specs.Uses.{read_self, read_word}
use Rattle.sw_typing_facts.specs.Rows.{RowsHold}
use Rattle.sw_lower_formed_facts.proofs.Expressions.Senses.{SenseOk, sense_ok}
use Rattle.sw_lower_total_facts.specs.Known.{TablesAgree}
use Rattle.sw_lower_total_facts.proofs.Expressions.Uses.{used_by}
use Rattle.sw_lower_placed_facts.specs.Claims.{AreNoted, AreOrdinary, IsOrdinary}
use Rattle.sw_lower_placed_facts.specs.Placing.{Places}
use Rattle.sw_lower_placed_facts.specs.Settled.{IsSettled}
use Rattle.sw_lower_placed_facts.specs.Hosts.{IsSeenFrom, IsHost, Program, Host}
use Rattle.sw_lower_placed_facts.proofs.Forms.Claims.{ExprClaim}
use Rattle.sw_lower_placed_facts.proofs.Forms.Joining.{with_weaker}
use Rattle.sw_lower_placed_facts.proofs.Forms.Shaping.{place_by, value_by}
use Rattle.sw_lower_placed_facts.proofs.Forms.UseNotes.{word_used}
use Rattle.sw_lower_placed_facts.proofs.Forms.Values.{gives_value, read_placed}
use Rattle.sw_lower_placed_facts.proofs.Placing.Joining.{places_weaker}
use Rattle.sw_lower_placed_facts.proofs.Uses.Using.{MadeValue}
use Rattle.sw_lower_placed_facts.proofs.Uses.Variables.{SelfValue, read_self_placed, write_var_placed}
use Rattle.sw_lower_placed_facts.proofs.Uses.Words.{read_word_placed}
use Rattle.sw_lower_placed_facts.proofs.Uses.Writes.{write_global_placed, write_own_placed}

module _ (program : Program) where
  -- No body is in a word.
  abbrev no_bodies : AreOrdinary program []
  no_bodies = All-nil (IsOrdinary program)

  pub int_claim : (setting : Setting) (expected : Bool) (at : ℕ) (value : ℤ)
      → ExprClaim program (is.int setting expected at value)
  unfolding expr_code
  int_claim setting expected at value host is_host same vars rows inside context listed seen =
      value_by program host context listed setting.vars (exprs.Int at value) _ at _ []
      (eq.fold_expr-Int (code_steps program.tables host.owner) at value)
      (λ noted. gives_value program host at types.Int
      (λ r. instr.Const at r (literals.Int value)) (λ r. refl) (λ r regs. tt) (λ r. tt) _
      no_bodies)

  pub bool_claim : (setting : Setting) (expected : Bool) (at : ℕ) (value : Bool)
      → ExprClaim program (is.bool setting expected at value)
  unfolding expr_code
  bool_claim setting expected at value host is_host same vars rows inside context listed seen =
      value_by program host context listed setting.vars (exprs.Bool at value) _ at _ []
      (eq.fold_expr-Bool (code_steps program.tables host.owner) at value)
      (λ noted. gives_value program host at types.Bool
      (λ r. instr.Const at r (literals.Bool value)) (λ r. refl) (λ r regs. tt) (λ r. tt) _
      no_bodies)

  pub yield_claim : (setting : Setting) (expected : Bool) (at : ℕ)
      → ExprClaim program (is.yield setting expected at)
  unfolding expr_code
  yield_claim setting expected at host is_host same vars rows inside context listed seen =
      value_by program host context listed setting.vars (exprs.Yield at) _ at _ []
      (eq.fold_expr-Yield (code_steps program.tables host.owner) at)
      (λ noted. gives_value program host at types.Unit (λ r. instr.Yield at r) (λ r. refl)
      (λ r regs. tt) (λ r. tt) _ no_bodies)

  module _ (settled : IsSettled program) where
    pub me_claim : (setting : Setting) (expected : Bool) (at : ℕ)
        → ExprClaim program (is.me setting expected at)
    unfolding expr_code
    me_claim setting expected at host is_host same vars rows inside context listed seen =
        place_by program host context listed setting.vars (exprs.Me at) false
        (self_code program.tables host.owner at)
        (eq.fold_expr-Me (code_steps program.tables host.owner) at)
        (λ noted s.
        places_weaker s (read_self program.tables host.owner at)
        (SelfValue program host settled is_host) _
        (read_self_placed program host settled is_host at s)
        (λ x t later self. (self.made, (λ is. self.own, no_bodies))))
        (λ set. absurd (false≢true set))

    module _ (host : Host) (is_host : IsHost program host) (context : Context)
        (seen : IsSeenFrom host context) (place : ℕ) where
      -- the assignment to a word with a meaning
      abbrev Stored : Used → Type 0
      Stored used = AreNoted program (store_notes context place used [])

      write_by : (at : ℕ) (meaning : Meaning)
          → program.tables.answers.meaning_at at ≡ Some meaning → (x : Operand)
          → Places program host (word_write program.tables host.owner at (Some meaning) x)
          → Places program host
          (word_write program.tables host.owner at (program.tables.answers.meaning_at at) x)
      write_by at meaning is x placed =
          subst (λ found. Places program host
          (word_write program.tables host.owner at found x)) (sym is) placed

      stored_by : (at : ℕ) (meaning : Meaning)
          → program.tables.answers.meaning_at at ≡ Some meaning
          → Stored (used_at program.tables.world program.tables.answers context no_base at)
          → Stored (meant program.tables.world context.owner no_base (Some meaning))
      stored_by at meaning is noted =
          subst Stored
          (used_by program.tables.world program.tables.answers context.owner no_base at meaning is)
          noted

      word_written : (meant : Sense) (at : ℕ) → SenseOk program.tables host.owner meant
          → RowsHold program.tables.answers (sensed program.tables.world meant at).rows
          → word_settable program.tables.world meant ≡ true
          → Stored (used_at program.tables.world program.tables.answers context no_base at)
          → (x : Operand) → Places program host
          (word_write program.tables host.owner at (program.tables.answers.meaning_at at) x)
      word_written (Variable one) at ok rows set noted x =
          write_by at (means.Local one.at) rows.0 x
          (write_var_placed program host settled is_host at one.at ok.ty x ok.typed)
      word_written (OwnProperty k i) at ok rows set noted x =
          write_by at (means.OwnPart i) rows.0 x
          (write_own_placed program host settled is_host at k i place [] x context seen ok
          (subst (λ owner. Stored (part_used program.tables.world owner i true))
          (seen.owner ∙ ok) (stored_by at (means.OwnPart i) rows.0 noted))
          (and_left (is_object program.tables.world k)
          (is_var_part (part_at program.tables.world k i)) set)
          (and_right (is_object program.tables.world k)
          (is_var_part (part_at program.tables.world k i)) set))
      word_written (OwnMethod key) at ok rows set noted x = absurd (false≢true set)
      word_written OwnCase at ok rows set noted x = absurd (false≢true set)
      word_written (Top (word.Shape kind n)) at ok rows set noted x = absurd (false≢true set)
      word_written (Top (word.GlobalActor n)) at ok rows set noted x = absurd (false≢true set)
      word_written (Top (word.Func key)) at ok rows set noted x = absurd (false≢true set)
      word_written (Top (word.Global g)) at ok rows set noted x =
          write_by at (means.GlobalOf g) rows.0 x
          (write_global_placed program host settled is_host at g place [] x context seen
          (stored_by at (means.GlobalOf g) rows.0 noted) set)
      word_written (Top word.Entry) at ok rows set noted x = absurd (false≢true set)
      word_written Printing at ok rows set noted x = absurd (false≢true set)
      word_written Nothing at ok rows set noted x = absurd (false≢true set)

    stores_word : (name : Name) (context : Context) (place : ℕ)
        → (see program.tables.world program.tables.answers (exprs.Use name)).stores context place
        ≡ store_notes context place
        (used_at program.tables.world program.tables.answers context no_base name.at) []
    unfolding see
    stores_word name context place =
        ap (λ s. s.stores context place)
        (eq.fold_expr-Use (note_steps program.tables.world program.tables.answers) name)

    pub word_claim : (known : TablesAgree program.tables program.numbers program.notes)
        (setting : Setting) (expected : Bool) (name : Name)
        → ExprClaim program (is.word setting expected name)
    unfolding expr_code
    word_claim known setting expected name host is_host same vars rows inside context listed
        seen =
        place_by program host context listed setting.vars (exprs.Use name) _
        (word_code program.tables host.owner name.at)
        (eq.fold_expr-Use (code_steps program.tables host.owner) name)
        (λ noted. read_placed program host (word_code program.tables host.owner name.at) refl
        (λ s. places_weaker s (read_word program.tables host.owner name.at) MadeValue
        (λ x t. MadeValue x t × AreOrdinary program [])
        (read_word_placed program host settled is_host name.at context seen
        (word_used program known context listed setting.vars name noted) s)
        (λ x t later made. (made, no_bodies))))
        (λ set at base stores x.
        with_weaker (word_write program.tables host.owner name.at
        (program.tables.answers.meaning_at name.at) x) (λ any. no_bodies)
        (word_written host is_host context seen at
        (sense program.tables.world setting name.id) name.at
        (sense_ok program.tables host.owner setting name.id vars same) rows set
        (subst (AreNoted program) (stores_word name context at) stores) x))
