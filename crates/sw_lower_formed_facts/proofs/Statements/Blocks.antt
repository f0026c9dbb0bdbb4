-- Statements after each other are safe, and so is a block of them, whose variables are seen in it
-- alone.
use Rattle.std.proofs.Common.{◌≡◌, ℕ, List, [], ◌∷◌, sym, subst, refl, flat_map, Bool, true}
use Rattle.std.proofs.Common.{true≢false, Option, Some, ◌&&◌}
use Rattle.std.proofs.lemmas.List.Elements.{All-append, All-nil}
use Rattle.std.proofs.lemmas.Option.{none-some}
use Rattle.sw_graph.specs.declared.function.Function.{Function}
use Rattle.sw_graph.specs.declared.instr.Operand.{Operand}
use Rattle.sw_typing_rules.specs.Statements.{Left, State, goes_on, is_one, then_left}
use Rattle.sw_typing_rules.proofs.Steps.{and_both}
use Rattle.sw_lower_plans.specs.Plan.{Numbers}
use Rattle.sw_lower_code.specs.Code.{Code, all}
use Rattle.sw_lower_code.specs.Whole.{Body}
use Rattle.sw_lower_rules.specs.Carriers.{StmtCode}
use Rattle.sw_lower_rules.specs.Statements.{block_layer, block_only}
use Rattle.sw_lower_rules.specs.Tables.{Tables}
use Rattle.sw_lower_rules.specs.declared.targets.Targets.{Targets}
use Rattle.sw_lower_formed_facts.specs.Forms.{BlockOk, BodiesFit, BodyFits, CodeOk, GivesTo, OnlyOk}
use Rattle.sw_lower_formed_facts.specs.Forms.{ReturnsBack, ReturnsOk, StmtOk}
use Rattle.sw_lower_formed_facts.specs.Safe.{Keeps, seeing}
use Rattle.sw_lower_formed_facts.proofs.Positions.Entering.{targets_still}
use Rattle.sw_lower_formed_facts.proofs.Positions.Following.{follows_self, follows_then}
use Rattle.sw_lower_formed_facts.proofs.Positions.Steps.{safe_done, safe_scope}
use Rattle.sw_lower_formed_facts.proofs.Positions.Then.{safe_then, safe_weaker}
use Rattle.sw_lower_formed_facts.proofs.Statements.Stating.{Kept, Stated, keeps_seeing}

-- the code of statements, in order
abbrev pub stmts_code : List StmtCode → Targets → Code (Unit {0})
stmts_code stmts targets = all (λ (one : StmtCode). one.code targets) stmts

-- the bodies in statements
abbrev pub stmts_inside : List StmtCode → List Body
stmts_inside stmts = flat_map (λ (one : StmtCode). one.inside) stmts

module _ (tables : Tables) (number : Numbers) (functions : List Function) (owner : Option ℕ) where
  -- Statements in order; `only` says whether one alone would be the one statement of a body.
  pub record StmtsOk (only : Bool) (state : State) (stmts : List StmtCode) (left : Left)
      : Type 0 where
    pub code_ok : CodeOk tables number functions owner left.state.returned (stmts_code stmts)
        (Stated tables number functions owner (stmts_inside stmts))
    pub only_ok : only ≡ true → is_one stmts ≡ true
        → OnlyOk tables number functions owner state.returned left.state.returned (block_only stmts)
        (stmts_inside stmts)
    pub back : ReturnsBack tables number functions state.returned left.state.returned
    pub same : stmts ≡ [] → left.state.returned ≡ state.returned

  -- no statements
  pub no_stmts_ok : (only : Bool) (state : State)
      → StmtsOk only state [] (goes_on state [] true)
  unfolding all
  no_stmts_ok only state = record {
    code_ok = λ w of p knows targets targets_ok returns.
        safe_done w p tt (λ _ q. Stated tables number functions owner [] w p q)
        (follows_self w p, (knows, All-nil (BodyFits tables number functions)));
    only_ok = λ is one. absurd (true≢false (sym one));
    back = λ result returns. returns;
    same = λ is. refl;
  }

  more_stmts_only : (only : Bool) (state : State) (stmt : StmtCode) (stmts : List StmtCode)
      (left last : Left) → StmtOk tables number functions owner only state stmt left
      → StmtsOk only left.state stmts last → only ≡ true → is_one (stmt ∷ stmts) ≡ true
      → OnlyOk tables number functions owner state.returned last.state.returned
      (block_only (stmt ∷ stmts)) (stmts_inside (stmt ∷ stmts))
  more_stmts_only only state stmt [] left last ok more is one read some begun result returns valued
      w of p knows =
      safe_weaker w p read
      (λ x q. GivesTo w q result x × (Keeps w p q
      × BodiesFit tables number functions stmt.inside))
      (λ x q. GivesTo w q result x × (Keeps w p q
      × BodiesFit tables number functions (stmts_inside (stmt ∷ []))))
      (ok.only_ok is read some begun result
      (subst (λ found. ReturnsOk found result) (more.same refl) returns) valued w of p knows)
      (λ x q in_q got. (
        got.0,
        (
          got.1.0,
          All-append (BodyFits tables number functions) stmt.inside [] got.1.1
              (All-nil (BodyFits tables number functions)),
        ),
      ))
  more_stmts_only only state stmt (other ∷ stmts) left last ok more is one read some begun result
      returns valued w of p knows = absurd (true≢false (sym one))

  -- a statement before others
  pub more_stmts_ok : (only : Bool) (state : State) (stmt : StmtCode) (stmts : List StmtCode)
      (left last : Left) → StmtOk tables number functions owner only state stmt left
      → StmtsOk only left.state stmts last
      → StmtsOk only state (stmt ∷ stmts) (then_left left last)
  unfolding all
  more_stmts_ok only state stmt stmts left last ok more = record {
    code_ok = λ w of p knows targets targets_ok returns.
        safe_then w p (stmt.code targets) (λ _. stmts_code stmts targets)
        (λ _ q. Stated tables number functions owner stmt.inside w p q)
        (λ _ q. Stated tables number functions owner (stmts_inside (stmt ∷ stmts)) w p q)
        (ok.code_ok w of p knows targets targets_ok (more.back w.result returns))
        (λ _ q in_q one.
        safe_weaker w q (stmts_code stmts targets)
        (λ _ s. Stated tables number functions owner (stmts_inside stmts) w q s)
        (λ _ s. Stated tables number functions owner (stmts_inside (stmt ∷ stmts)) w p s)
        (more.code_ok w of q one.1.0 targets (targets_still w p q targets one.0 targets_ok)
        returns)
        (λ _ s in_s two. (
          follows_then w p q s one.0 two.0,
          (
            two.1.0,
            All-append (BodyFits tables number functions) stmt.inside (stmts_inside stmts)
                one.1.1 two.1.1,
          ),
        )));
    only_ok = more_stmts_only only state stmt stmts left last ok more;
    back = λ result returns. ok.back result (more.back result returns);
    same = λ is. absurd (no_cons is);
  } where
    no_cons : stmt ∷ stmts ≡ [] → ⊥
    no_cons is = cc

  only_of_one : (stmts : List StmtCode) (read : Code Operand) → block_only stmts ≡ Some read
      → is_one stmts ≡ true
  only_of_one [] read is = absurd (none-some read is)
  only_of_one (stmt ∷ []) read is = refl
  only_of_one (stmt ∷ other ∷ stmts) read is = absurd (none-some read is)

  -- What is declared in a block isn't seen after it.
  pub block_ok : (only : Bool) (state : State) (stmts : List StmtCode) (left : Left)
      → StmtsOk (only && is_one stmts) state stmts left
      → BlockOk tables number functions owner only state (block_layer stmts) left
  block_ok only state stmts left ok = record {
    code_ok = λ w of p knows targets targets_ok returns.
        safe_scope w p (stmts_code stmts targets)
        (λ _ q. Kept tables number functions owner (stmts_inside stmts) w p q)
        (safe_weaker w p (stmts_code stmts targets)
        (λ _ q. Stated tables number functions owner (stmts_inside stmts) w p q)
        (λ _ q. Kept tables number functions owner (stmts_inside stmts) w p
        (seeing p.making.vars q))
        (ok.code_ok w of p knows targets targets_ok returns)
        (λ _ q in_q stated. (keeps_seeing w p q stated.0, stated.1.1)));
    only_ok = λ is read some begun.
        let one = only_of_one stmts read some in
        ok.only_ok (and_both only (is_one stmts) is one) one read some begun;
    back = ok.back;
  }
