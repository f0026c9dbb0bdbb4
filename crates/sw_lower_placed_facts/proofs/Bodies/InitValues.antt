-- The values that an initialiser gives to properties are placed.
use Rattle.std.proofs.Common.{◌≡◌, ℕ, ◌<◌, inl, inr, Bool, true, false, List, [], ◌∷◌, ◌++◌}
use Rattle.std.proofs.Common.{length, Option, Some, map, flat_map, Contains, refl, ap, sym}
use Rattle.std.proofs.Common.{◌∙◌, subst}
use Rattle.std.proofs.lemmas.List.Elements.{All-nil, Contains-append_cases, Contains-append_left}
use Rattle.std.proofs.lemmas.List.Elements.{Contains-append_right}
use Rattle.std.specs.Prelude.{slice_get}
use Rattle.sw_list.proofs.Members.{none_in}
use Rattle.sw_tree.proofs.FoldEquations as eq
use Rattle.sw_tree.specs.Folds.{Steps, fold_stmt}
use Rattle.sw_tree.specs.declared.decl.Decl.{Decl}
use Rattle.sw_tree.specs.declared.expr.Expr.{Expr}
use Rattle.sw_tree.specs.declared.expr.Expr.TheVariants as exprs
use Rattle.sw_tree.specs.declared.operator.AssignOp.TheVariants as assigns
use Rattle.sw_tree.specs.declared.stmt.Block.{Block, out-roll-Block, roll-Block}
use Rattle.sw_tree.specs.declared.stmt.Stmt.{Stmt}
use Rattle.sw_types.specs.declared.isolation.Iso.{Iso}
use Rattle.sw_types.specs.declared.shape.Shape.{Shape}
use Rattle.sw_graph.specs.Bodies.{is_own}
use Rattle.sw_decl_words.specs.Evident.{meanings_of}
use Rattle.sw_decls.specs.declared.signature.AsyncDefault.{AsyncDefault}
use Rattle.sw_typing_rules.specs.Expressions.{Judged}
use Rattle.sw_typing_rules.specs.Judges as is
use Rattle.sw_typing_rules.specs.Judges.{Judges, Leaves, LeavesAll, LeavesBlock}
use Rattle.sw_typing_rules.specs.Statements.{Left, State, in_body}
use Rattle.sw_typing_rules.specs.Statements.{setting_of}
use Rattle.sw_typing_rules.specs.Words.{Setting}
use Rattle.sw_typing_rules.specs.Worlds.{World}
use Rattle.sw_typing_rules.proofs.Sound.{judges}
use Rattle.sw_isolation_rules.specs.Answers.{Answers}
use Rattle.sw_isolation_rules.specs.Kinds.{shape_iso}
use Rattle.sw_isolation_rules.specs.Noting.{block_notes, see, stmt_notes}
use Rattle.sw_isolation_rules.specs.declared.note.Note.{Note}
use Rattle.sw_isolation_rules.specs.declared.uses.Context.{Context}
use Rattle.sw_lower_plans.specs.Run.{Making}
use Rattle.sw_lower_code.specs.Whole.{Body}
use Rattle.sw_lower_rules.specs.Carriers.{BlockCode, ExprCode, Given, StmtCode}
use Rattle.sw_lower_rules.specs.Statements.{block_code, code_steps, expr_code}
use Rattle.sw_lower_rules.specs.Tables.{Tables}
use Rattle.sw_lower_formed_facts.specs.Forms.{VarsHold}
use Rattle.sw_typing_facts.specs.Rows.{RowsHold}
use Rattle.sw_lower_formed_facts.proofs.Bodies.InitStmts.{OwnAssigned, in_init, own_assigned, own_gives}
use Rattle.sw_lower_formed_facts.proofs.Bodies.InitStmts.{own_inside}
use Rattle.sw_typing_facts.proofs.Lists.Listed.{in_first, in_rest, only_in}
use Rattle.sw_typing_facts.proofs.Programs.OwnAssigns.{OwnAssign}
use Rattle.sw_lower_formed_facts.proofs.Programs.SimpleInside.{simple_inside}
use Rattle.sw_typing_facts.proofs.Said.Rows.{rows_left, rows_right}
use Rattle.sw_lower_total_facts.specs.Trees.{BlockStands}
use Rattle.sw_lower_total_facts.proofs.Standing.NoteForms.{notes-Assign, notes-block, stmts_notes}
use Rattle.sw_lower_total_facts.proofs.Standing.Trees.{StandStmts, StandsStmt, assign_value_stands}
use Rattle.sw_lower_total_facts.proofs.Standing.Trees.{block_stmts_stand, stmts_after_stand}
use Rattle.sw_lower_total_facts.proofs.Standing.Trees.{stmts_first_stands}
use Rattle.sw_lower_formed_facts.specs.Trees.{IsHere}
use Rattle.sw_lower_placed_facts.specs.Claims.{AreInside, ExprNoted}
use Rattle.sw_lower_placed_facts.specs.Placing.{PlacesAt}
use Rattle.sw_lower_placed_facts.specs.Hosts.{IsSeenFrom, IsHost, Program, Host}
use Rattle.sw_lower_placed_facts.proofs.Bodies.Getters.{own_actor}
use Rattle.sw_lower_placed_facts.proofs.Bodies.Given as the
use Rattle.sw_lower_placed_facts.proofs.Bodies.Given.{IsProgram}
use Rattle.sw_lower_placed_facts.proofs.Bodies.Makers.{AreGiven}
use Rattle.sw_lower_placed_facts.proofs.Bodies.Notes.{AreIn}
use Rattle.sw_lower_placed_facts.proofs.Placing.Joining.{places_weaker}

-- where an initialiser of the type with a number stands
abbrev pub maker_host : Iso → ℕ → Host
maker_host isolation n = record { iso = isolation; owner = Some n; has_self = false }

-- the isolation of an initialiser is that of its type
pub maker_host_is : (program : Program) (isolation : Iso) (n : ℕ) (shape : Shape)
    → slice_get program.tables.world.shapes n ≡ Some shape → isolation ≡ shape_iso shape
    → IsHost program (maker_host isolation n)
maker_host_is program isolation n shape at same = record {
  own = λ has. cc;
  actor = λ own. (
    n,
    refl,
    record {
      shape = shape;
      at = at;
      is = own_actor shape.kind shape.actor (ap is_own (sym same) ∙ own);
    },
  );
}

-- No bodies are those of the program.
none_inside : (program : Program) (some : List Body) → some ≡ [] → AreInside program some
none_inside program some none =
    subst (AreInside program) (sym none) (record {
      here = All-nil (IsHere program.tables program.numbers program.functions);
      among = λ body has. absurd (none_in body has);
    })

pub both_given : (program : Program) (host : Host) (one other : List Given)
    → AreGiven program host one → AreGiven program host other → AreGiven program host (one ++ other)
both_given program host one other first second given has =
    elim (Contains-append_cases one other given has) [
      | inl here ↦ first given here
      | inr there ↦ second given there
    ]

module _ (decls : List Decl) (rule : AsyncDefault) (world : World) (ordered : List Body)
    (given : IsProgram decls rule world ordered) (n : ℕ) (isolation : Iso) where
  abbrev tables : Tables
  tables = the.tables decls rule world ordered given

  abbrev answers : Answers
  answers = the.answers decls rule world ordered given

  abbrev notes : List Note
  notes = the.notes decls rule world ordered given

  abbrev program : Program
  program = the.program decls rule world ordered given

  abbrev host : Host
  host = maker_host isolation n

  abbrev steps : Steps
  steps = code_steps tables (Some n)

  -- A value in which there are no bodies is placed.
  pub value_placed : IsHost program host → (setting : Setting) (expected : Bool) (value : Expr)
      (judged : Judged) → Judges world setting expected value judged → setting.owner ≡ Some n
      → VarsHold answers setting.vars → RowsHold answers judged.rows
      → (expr_code tables (Some n) value).inside ≡ [] → (context : Context)
      → IsSeenFrom host context → ExprNoted program context [] setting.vars value
      → (s : Making)
      → PlacesAt program host s (expr_code tables (Some n) value).read
      (λ x t. x.reg < length t.made.regs)
  value_placed is_host setting expected value judged judges owner vars rows none context seen noted
      s =
      places_weaker s (expr_code tables (Some n) value).read _
      (λ x t. x.reg < length t.made.regs)
      ((given.exprs setting expected value judged judges host is_host owner vars rows
      (none_inside program (expr_code tables (Some n) value).inside none) context [] seen).read
      noted s) (λ x t later all. all.0)

  module _ (is_host : IsHost program host) (params : ℕ → Option ℕ) (context : Context)
      (seen : IsSeenFrom host context) where
    -- what a statement gives
    record StmtGives (stmt : Stmt) (state : State) (left : Left) : Type 0 where
      gives : AreGiven program host (fold_stmt steps stmt).gives
      inside : (fold_stmt steps stmt).inside ≡ []
      still : left.state ≡ state

    assign_gives : (only : Bool) (state : State) (stmt : Stmt) (left : Left)
        → Leaves world (in_init n only) state stmt left → VarsHold answers state.vars
        → RowsHold answers left.rows → StandsStmt tables notes context [] state.vars stmt
        → AreIn notes (stmt_notes world answers stmt context [])
        → OwnAssign (meanings_of decls) n params stmt → StmtGives stmt state left
    unfolding expr_code
    assign_gives only state stmt left leaves vars rows stands noted own = record {
      gives = subst (AreGiven program host)
          (sym (own_gives tables n (meanings_of decls) params stmt own))
          (λ one has s. subst (λ (g : Given).
          PlacesAt program host s g.read (λ x t. x.reg < length t.made.regs))
          (only_in (record { name = own.name.id; read = code.read }) one has) (read s));
      inside = own_inside tables n (meanings_of decls) params stmt own;
      still = it.still;
    } where
      value : Expr
      value = own.sets.value

      place : Expr
      place = exprs.Member (exprs.Me own.sets.me) own.name

      code : ExprCode
      code = expr_code tables (Some n) value

      it : OwnAssigned world n (meanings_of decls) params only state stmt own answers left
      it = own_assigned world n (meanings_of decls) params only state stmt own answers left leaves
          rows

      there : ExprNoted program context [] state.vars value
      there = record {
        stands = assign_value_stands tables notes context [] state.vars own.sets.at assigns.Set
            place value
            (subst (StandsStmt tables notes context [] state.vars) own.sets.is stands);
        noted = λ note has no_mention.
            noted note
            (subst (λ (x : Stmt). Contains (stmt_notes world answers x context []) note)
            (sym own.sets.is)
            (subst (λ list. Contains list note)
            (sym (notes-Assign world answers context [] own.sets.at assigns.Set place value))
            (Contains-append_right _ ((see world answers value).notes context []) note has)));
      }

      read : (s : Making)
          → PlacesAt program host s code.read (λ x t. x.reg < length t.made.regs)
      read = value_placed is_host (setting_of (in_init n only) state) it.expected value it.judged
          it.judges refl vars it.rows
          (simple_inside tables (Some n) (meanings_of decls) (Some n) params value own.simple)
          context seen there

    -- what statements give
    record StmtsGive (xs : List Stmt) : Type 0 where
      gives : AreGiven program host
          (flat_map (λ (one : StmtCode). one.gives) (map (fold_stmt steps) xs))
      inside : flat_map (λ (one : StmtCode). one.inside) (map (fold_stmt steps) xs) ≡ []

    more_gives : (stmt : Stmt) (xs : List Stmt) (state : State) (left : Left)
        → StmtGives stmt state left → StmtsGive xs → StmtsGive (stmt ∷ xs)
    more_gives stmt xs state left one rest = record {
      gives = both_given program host (fold_stmt steps stmt).gives
          (flat_map (λ (one : StmtCode). one.gives) (map (fold_stmt steps) xs)) one.gives
          rest.gives;
      inside = ap (λ first. first
          ++ flat_map (λ (one : StmtCode). one.inside) (map (fold_stmt steps) xs)) one.inside
          ∙ rest.inside;
    }

    stmts_give : (only : Bool) (state : State) (xs : List Stmt) (left : Left)
        → LeavesAll world (in_init n only) state xs left → VarsHold answers state.vars
        → RowsHold answers left.rows → StandStmts tables notes context [] state.vars xs
        → AreIn notes (stmts_notes world answers xs context [])
        → ((x : Stmt) → Contains xs x → OwnAssign (meanings_of decls) n params x) → StmtsGive xs
    stmts_give only state xs left (is.no_stmt _ _) vars rows stands noted own =
        record { gives = λ one has. absurd (none_in one has); inside = refl }
    stmts_give only state xs left (is.one_stmt _ _ stmt more one last d rest) vars rows stands noted
        own =
        let first = assign_gives only state stmt one d vars
        (rows_left answers one.rows last.rows rows)
        (stmts_first_stands tables notes context [] state.vars stmt more stands)
        (λ note has. noted note
        (Contains-append_left (stmt_notes world answers stmt context [])
        (stmts_notes world answers more context []) note has)) (own stmt (in_first stmt more)) in
        more_gives stmt more state one first
        (stmts_give only one.state more last rest
        (subst (λ (s : State). VarsHold answers s.vars) (sym first.still) vars)
        (rows_right answers one.rows last.rows rows)
        (stmts_after_stand tables notes context [] (in_init n only) state stmt more one d stands)
        (λ note has. noted note
        (Contains-append_right (stmt_notes world answers stmt context [])
        (stmts_notes world answers more context []) note has))
        (λ x has. own x (in_rest stmt more x has)))

    -- what the block of an initialiser gives
    pub record BlockGives (block : Block) : Type 0 where
      pub gives : AreGiven program host (block_code tables (Some n) block).gives
      pub inside : (block_code tables (Some n) block).inside ≡ []

    pub block_gives : (state : State) (block : Block) (left : Left)
        → LeavesBlock world (in_body (Some n) true) state block left
        → VarsHold answers state.vars → RowsHold answers left.rows
        → BlockStands tables (the.numbers decls rule world ordered given) notes context []
        state.vars block
        → AreIn notes (block_notes world answers block context [])
        → ((x : Stmt) → Contains block.stmts x → OwnAssign (meanings_of decls) n params x)
        → BlockGives block
    unfolding block_code
    block_gives state block left (is.block _ _ xs _ d) vars rows stands noted own =
        let stmts_are : (roll-Block (record { stmts = xs })).stmts ≡ xs =
        ap (λ b. b.stmts) (out-roll-Block (record { stmts = xs })) in
        let code_is = eq.fold_block-roll steps xs in
        let it = stmts_give _ state xs left d vars rows
        (block_stmts_stand tables notes context [] state.vars xs stands)
        (λ note has. noted note
        (subst (λ list. Contains list note) (sym (notes-block world answers context [] xs)) has))
        (λ x has. own x (subst (λ list. Contains list x) (sym stmts_are) has)) in record {
          gives = subst (AreGiven program host) (sym (ap (λ (c : BlockCode). c.gives) code_is))
              it.gives;
          inside = ap (λ (c : BlockCode). c.inside) code_is ∙ it.inside;
        }
