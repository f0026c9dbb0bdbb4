-- The arms of an `if`, one after the other, are those that stand in one another.
use Rattle.std.proofs.Common.{◌≡◌, ℕ, List, [], ◌∷◌, ◌++◌, Ok, Err, refl, ap, sym, ◌∙◌}
use Rattle.sw_graph.specs.declared.instr.Last.TheVariants as last
use Rattle.sw_lower_plans.specs.Run.{Making, Run, run_after}
use Rattle.sw_lower_plans.specs.declared.fault.CodeFault.{CodeFault}
use Rattle.sw_lower_code.specs.Code.{Code, andthen, close, done, each, resume, ◌>>=◌, ◌>>◌}
use Rattle.sw_lower_rules.specs.Carriers.{IfCode}
use Rattle.sw_lower_rules.specs.Expressions.{block_made, jump}
use Rattle.sw_lower_rules.specs.Statements.{arms_code}
use Rattle.sw_lower_rules.specs.declared.targets.Targets.{Targets}
use Rattle.sw_lower_stmt.proofs.Loops.{Outcome, after_then, done_then, then_then}
use Rattle.sw_lower_stmt.specs.Parts.{arm_opened, joined_all, joined_in}

after_nothing : (run : Outcome (Unit {0})) → run_after run (λ _ t. Ok (tt, t)) ≡ run
after_nothing (Ok at) = refl
after_nothing (Err fault) = refl

-- an arm, and what follows it
opened_then : (targets : Targets) (arm : IfCode) (next : ℕ → Code (Unit {0})) (s : Making)
    → (arm_opened targets arm >>= next).run s
    ≡ (arm.cond
    >>= λ given. block_made
    >>= λ yes. block_made
    >>= λ no. block_made
    >>= λ merge. close (last.Branch given yes no)
    >> resume yes
    >> arm.body.code targets
    >> jump merge
    >> resume no
    >> next merge).run s
unfolding arm_opened
opened_then targets arm next s =
    then_then arm.cond _ _ _ s (λ given t. then_then _ _ _ _ t (λ yes t. then_then _ _ _ _ t
    (λ no t. then_then _ _ _ _ t (λ merge t. then_then _ _ _ _ t (λ _ t. then_then _ _ _ _ t
    (λ _ t. then_then _ _ _ _ t (λ _ t. then_then _ _ _ _ t (λ _ t. then_then _ _ _ _ t
    (λ _ t. done_then merge next t)))))))))

-- arms of an `if` one after the other
pub arms_split : (arms : List IfCode) (otherwise : Code (Unit {0})) (targets : Targets) (s : Making)
    → (arms_code arms otherwise targets).run s
    ≡ (each (arm_opened targets) arms >>= λ merges. otherwise >> joined_all merges).run s
unfolding arms_code each andthen close done resume joined_all joined_in
arms_split [] otherwise targets s = sym (after_nothing (otherwise.run s))
arms_split (arm ∷ arms) otherwise targets s =
    sym (opened_then targets arm (λ merge. arms_code arms otherwise targets >> joined_in merge) s)
    ∙ sym (after_then ((arm_opened targets arm).run s) _ _ _ (λ merge t.
    let opened = each (arm_opened targets) arms in
    let join : Run (Unit {0}) = (joined_in merge).run in
    let rest : List ℕ → Run (Unit {0}) = λ merges u. run_after (otherwise.run u)
    (λ _ v. run_after ((joined_all merges).run v) (λ _. join)) in
    after_then (opened.run t) (λ merges u. Ok (merge ∷ merges, u))
    (λ merges. (otherwise >> joined_all merges).run) rest (λ merges u. refl)
    ∙ sym (ap (λ run. run_after run (λ _. join)) (arms_split arms otherwise targets t)
    ∙ after_then (opened.run t) (λ merges. (otherwise >> joined_all merges).run) (λ _. join) rest
    (λ merges u. after_then (otherwise.run u) (λ _. (joined_all merges).run) (λ _. join)
    (λ _ v. run_after ((joined_all merges).run v) (λ _. join)) (λ _ v. refl)))))

-- the last joins first
pub last_joins : (before : List ℕ) (merge : ℕ) (s : Making)
    → (joined_all (before ++ merge ∷ [])).run s
    ≡ run_after ((joined_in merge).run s) (λ _. (joined_all before).run)
unfolding andthen done joined_all
last_joins [] merge s = sym (after_nothing ((joined_in merge).run s))
last_joins (one ∷ before) merge s =
    ap (λ run. run_after run (λ _. (joined_in one).run)) (last_joins before merge s)
    ∙ after_then ((joined_in merge).run s) (λ _. (joined_all before).run)
    (λ _. (joined_in one).run) (λ _. (joined_all (one ∷ before)).run) (λ _ t. refl)

module _ (all before : List ℕ) (merge : ℕ) (s : Making) (whole : Outcome (Unit {0}))
    (left : (joined_all all).run s ≡ whole) where
  -- one way joins
  pub joins_next : (t : Making) → all ≡ before ++ merge ∷ []
      → (joined_in merge).run s ≡ Ok (tt, t) → (joined_all before).run t ≡ whole
  joins_next t is one =
      sym (ap (λ run. run_after run (λ _. (joined_all before).run)) one)
      ∙ (sym (last_joins before merge s)
      ∙ (sym (ap (λ merges. (joined_all merges).run s) is) ∙ left))

  -- one way doesn't join
  pub joins_fail : (fault : CodeFault) → all ≡ before ++ merge ∷ []
      → (joined_in merge).run s ≡ Err fault → whole ≡ Err fault
  joins_fail fault is one =
      sym left ∙ (ap (λ merges. (joined_all merges).run s) is ∙ (last_joins before merge s
      ∙ ap (λ run. run_after run (λ _. (joined_all before).run)) one))

-- all ways have joined
pub joins_end : (all : List ℕ) (s : Making) (whole : Outcome (Unit {0}))
    → (joined_all all).run s ≡ whole → all ≡ [] → whole ≡ Ok (tt, s)
unfolding done joined_all
joins_end all s whole left is = sym left ∙ ap (λ merges. (joined_all merges).run s) is
