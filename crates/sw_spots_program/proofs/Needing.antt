-- The trees of a program meet what is asked of them, if each `if` in them has an arm.
use Rattle.std.proofs.Common.{◌≡◌, ℕ, ◌<◌, ◌⊎◌, inl, inr, Bool, true, false, List, [], ◌∷◌, Contains}
use Rattle.std.proofs.Common.{refl, ap, sym, ◌∙◌, arith}
use Rattle.std.proofs.lemmas.Bool.{eqb-true}
use Rattle.std.specs.List.{filter}
use Rattle.std.specs.Prelude.{◌==◌, if◌then◌else◌}
use Rattle.sw_list.proofs.Members.{first_or_later, none_in}
use Rattle.sw_tree.proofs.Members.{of_filter, of_map}
use Rattle.sw_tree.specs.Scopes.{AreScoped}
use Rattle.sw_tree.specs.declared.decl.Decl.{Decl}
use Rattle.sw_tree.specs.declared.expr.Closure.{out-Closure}
use Rattle.sw_tree_facts.proofs.PartsWritten.{tasks_take_nothing}
use Rattle.sw_tree_facts.specs.Parts.{of_decls}
use Rattle.sw_tree_facts.specs.Unwritten.{AreWritten}
use Rattle.sw_typing_rules.specs.Worlds.{World}
use Rattle.sw_isolation_rules.proofs.SoundPrograms.{outer_captures}
use Rattle.sw_isolation_rules.specs.Answers.{Answers}
use Rattle.sw_isolation_rules.specs.Lists.{captures_in}
use Rattle.sw_isolation_rules.specs.Programs.{noted}
use Rattle.sw_isolation_rules.specs.declared.note.Capture.{Capture}
use Rattle.sw_lower_rules.specs.Tables.{Isolation, isolation_in}
use Rattle.sw_spots.specs.Making.{IsOne}
use Rattle.sw_spots_tree.specs.Needs.{ClosuresAreApart, IfsHaveArms, Needs, captured_by}
use Rattle.sw_spots_program.proofs.Ones.{one_contained}
use Rattle.sw_spots_program.proofs.Outside.{closure_before}

-- what a filter keeps passes the test
kept : {X : Type 0} (test : X → Bool) (xs : List X) (x : X) → Contains (filter test xs) x
    → test x ≡ true
kept test [] x has = absurd (none_in x has)
kept {X} test (y ∷ ys) x has = by (test y) refl (kept test ys x) has where
  of_both : test y ≡ true → (Contains (filter test ys) x → test x ≡ true)
      → (y ≡ x) ⊎ Contains (filter test ys) x → test x ≡ true
  of_both is rest (inl same) = ap test (sym same) ∙ is
  of_both is rest (inr later) = rest later

  by : (keeps : Bool) → test y ≡ keeps → (Contains (filter test ys) x → test x ≡ true)
      → Contains (if keeps then y ∷ filter test ys else filter test ys) x → test x ≡ true
  by true is rest has = of_both is rest (first_or_later y (filter test ys) x has)
  by false is rest has = rest has

module _ (world : World) (answers : Answers) (decls : List Decl) where
  abbrev isolation : Isolation
  isolation = isolation_in (noted world answers decls)

  -- What a closure captures has a key below the closure's.
  captured_before : (closure key : ℕ) → IsOne (captured_by (isolation.captures_of closure)) key
      → key < closure
  captured_before closure key one =
      let test = λ (capture : Capture). capture.closure == closure in
      let all = captures_in (noted world answers decls) in
      let captures = filter test all in
      let (capture, has, same) = of_map (λ (capture : Capture). capture.variable) captures key
      (one_contained (captured_by captures) key one) in
      let before = outer_captures world answers decls capture (of_filter test all capture has) in
      let its = eqb-true capture.closure closure (kept test all capture has) in
      omega (arith, before, same, its)

  closures_apart : AreScoped decls → ClosuresAreApart isolation.captures_of (of_decls decls)
  closures_apart scoped closure stands key one captured =
      absurd (omega (
        arith,
        closure_before decls scoped closure stands key one,
        captured_before (out-Closure closure).at key captured,
      ))

  pub program_needs : AreScoped decls → AreWritten decls → IfsHaveArms (of_decls decls)
      → Needs isolation.captures_of (of_decls decls)
  program_needs scoped written ifs = record {
    ifs = ifs;
    tasks = tasks_take_nothing (of_decls decls) written;
    closures = closures_apart scoped;
  }
