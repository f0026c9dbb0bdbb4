-- What is found on the way through a block, and through all blocks.
use Rattle.std.proofs.Common.{◌≡◌, ℕ, ◌+◌, ◌<◌, ◌≤◌, ◌⊎◌, inl, inr, ◌↔◌, Option, Some, None, List}
use Rattle.std.proofs.Common.{[], IfSome, ◌∷◌, ◌++◌, length, take, get_or, Contains, refl, sym}
use Rattle.std.proofs.Common.{subst, ap, ◌∙◌, arith}
use Rattle.std.proofs.lemmas.Bool.{cases_eq, cases_lt}
use Rattle.std.proofs.lemmas.List.{take_more, take_all}
use Rattle.std.proofs.lemmas.List.Elements.{Contains-append_left, Contains-push}
use Rattle.std.proofs.lemmas.List.Elements.{Contains-push_cases}
use Rattle.std.proofs.lemmas.Option.{slice_get_past}
use Rattle.std.specs.List.{All}
use Rattle.std.specs.Option.{option_map_or}
use Rattle.sw_solve.specs.Layout.{IsLeastOfBlocks}
use Rattle.sw_breach.specs.declared.Breach.{Breach}
use Rattle.sw_partition.specs.Regions.{Regions, size_of}
use Rattle.sw_region_flow.proofs.Exact.{breaches_are}
use Rattle.sw_region_flow.proofs.Same.{copy_back, copy_trans, among_same, among_push}
use Rattle.sw_region_flow.specs.Analysis.{Analysis, IsAnalysis, layout, block_ops_at}
use Rattle.sw_region_flow.specs.Analysis.{facts_of}
use Rattle.sw_region_flow.specs.Breaches.{IsBreachIn}
use Rattle.sw_region_flow.specs.Least.{FailsAt}
use Rattle.sw_region_flow.specs.Visits.{FailsBelow}
use Rattle.sw_region_flow.specs.Walks.{IsCopy, TestFails, FailsAmong}
use Rattle.sw_region_ops.proofs.RunLemmas.{runs_both}
use Rattle.sw_region_ops.specs.Runs.{Applies, Runs, Fits}
use Rattle.sw_region_ops.specs.Setting.{FunctionSetting}
use Rattle.sw_region_ops.specs.Table.{block_ops}
use Rattle.sw_region_ops.specs.declared.op.Op.{Op}
use Rattle.sw_solve.specs.Annotation.{value_at}

-- the breaches of a list and those for which P holds
abbrev pub IsFound : (Breach → Type 0) → List Breach → List Breach → Type 0
IsFound P old new = (b : Breach) → Contains new b ↔ (Contains old b ⊎ P b)

pub found_none : (P : Breach → Type 0) (list : List Breach) → ((b : Breach) → P b → ⊥)
    → IsFound P list list
found_none P list none = λ b. (λ has. inl has, λ h. back b h)
  where
    back : (b : Breach) → Contains list b ⊎ P b → Contains list b
    back b (inl has) = has
    back b (inr p) = absurd (none b p)

-- one breach is found
pub found_one : (P : Breach → Type 0) (old new : List Breach) (o : Option Breach) (found : Breach)
    → o ≡ Some found → ((b : Breach) → (o ≡ Some b) ↔ P b) → new ≡ old ++ found ∷ []
    → IsFound P old new
found_one P old new o found is tells e = λ b. (λ has. forth b has, λ h. back b h)
  where
    inside : (c d : Breach) → Some c ≡ Some d → c ≡ d
    inside c d e = cc

    forth : (b : Breach) → Contains new b → Contains old b ⊎ P b
    forth b has = elim (Contains-push_cases old found b (subst (λ l. Contains l b) e has)) [
      | inl before ↦ inl before
      | inr same ↦ inr ((tells b).0 (is ∙ ap Some same))
    ]

    back : (b : Breach) → Contains old b ⊎ P b → Contains new b
    back b (inl has) =
        subst (λ l. Contains l b) (sym e) (Contains-append_left old (found ∷ []) b has)
    back b (inr p) =
        let same : found ≡ b = inside found b (sym is ∙ (tells b).1 p) in
        subst (λ l. Contains l b) (sym e)
        (subst (λ x. Contains (old ++ found ∷ []) x) same (Contains-push old found))

pub found_nothing : (P : Breach → Type 0) (list : List Breach) (o : Option Breach) → o ≡ None
    → ((b : Breach) → (o ≡ Some b) ↔ P b) → IsFound P list list
found_nothing P list o is tells =
    found_none P list (λ b p. never b is ((tells b).1 p))
  where
    never : (b : Breach) → o ≡ None → o ≡ Some b → ⊥
    never b e f = cc

-- first one thing is found and then another
pub found_both : (P Q R : Breach → Type 0) (old was new : List Breach) → IsFound P old was
    → IsFound Q was new → ((b : Breach) → R b ↔ (P b ⊎ Q b)) → IsFound R old new
found_both P Q R old was new first second all = λ b. (λ has. forth b has, λ h. back b h)
  where
    forth : (b : Breach) → Contains new b → Contains old b ⊎ R b
    forth b has = elim ((second b).0 has) [
      | inl before ↦ elim ((first b).0 before) [
        | inl early ↦ inl early
        | inr p ↦ inr ((all b).1 (inl p))
      ]
      | inr q ↦ inr ((all b).1 (inr q))
    ]

    back : (b : Breach) → Contains old b ⊎ R b → Contains new b
    back b (inl has) = (second b).1 (inl ((first b).1 (inl has)))
    back b (inr r) = elim ((all b).0 r) [
      | inl p ↦ (second b).1 (inl ((first b).1 (inr p)))
      | inr q ↦ (second b).1 (inr q)
    ]

pub found_same : (P Q : Breach → Type 0) (old new : List Breach) → IsFound P old new
    → ((b : Breach) → Q b ↔ P b) → IsFound Q old new
found_same P Q old new found same = λ b. (λ has. forth b has, λ h. back b h)
  where
    forth : (b : Breach) → Contains new b → Contains old b ⊎ Q b
    forth b has = elim ((found b).0 has) [
      | inl before ↦ inl before
      | inr p ↦ inr ((same b).1 p)
    ]

    back : (b : Breach) → Contains old b ⊎ Q b → Contains new b
    back b (inl has) = (found b).1 (inl has)
    back b (inr q) = (found b).1 (inr ((same b).0 q))

-- what holds of a walk so far
pub record IsWalked (ops : List Op) (start now : Regions) (old new : List Breach) : Type 0 where
  pub runs : Runs ops start now
  pub found : IsFound (FailsAmong ops start) old new

pub walk_starts : (start : Regions) (old : List Breach) → IsWalked [] start start old old
walk_starts start old = record {
  runs = refl;
  found = found_none (FailsAmong [] start) old (λ b fails. fails);
}

-- one operation more
pub walk_more : (ops : List Op) (k : ℕ) (d : Op) (start now next : Regions)
    (old was new : List Breach) → k < length ops
    → IsWalked (take k ops) start now old was → Applies (get_or ops k d) now next
    → IsFound (TestFails (get_or ops k d) now) was new
    → IsWalked (take (k + 1) ops) start next old new
walk_more ops k d start now next old was new within walked does found =
    let op : Op = get_or ops k d in
    subst (λ os. IsWalked os start next old new) (sym (take_more ops k d within)) (record {
      runs = runs_both (take k ops) (op ∷ []) start now next walked.runs (next, does, refl);
      found = found_both (FailsAmong (take k ops) start) (TestFails op now)
          (FailsAmong (take k ops ++ op ∷ []) start) old was new walked.found found
          (λ b. among_push (take k ops) op start now b walked.runs);
    })

pub walk_ends : (ops : List Op) (k : ℕ) (start now : Regions) (old new : List Breach)
    → length ops ≤ k → IsWalked (take k ops) start now old new → IsWalked ops start now old new
walk_ends ops k start now old new past walked =
    subst (λ os. IsWalked os start now old new) (take_all k ops past) walked

-- no state stands at a block that control doesn't reach
pub visit_none : (ops : ℕ → List Op) (s : List (Option Regions)) (n : ℕ) (list : List Breach)
    → value_at s n ≡ None → IsFound (FailsAt ops s n) list list
visit_none ops s n list e =
    found_none (FailsAt ops s n) list (λ b fails. never (value_at s n) fails.state e fails.stands)
  where
    never : (o : Option Regions) (x : Regions) → o ≡ None → o ≡ Some x → ⊥
    never o x e f = cc

-- a walk from a copy of the state at a block
pub visit_some : (setting : FunctionSetting) (s : List (Option Regions)) (n : ℕ) (ops : List Op)
    (state copied end : Regions) (old new : List Breach) → value_at s n ≡ Some state
    → IsCopy state copied → ops ≡ block_ops_at setting n → Runs ops copied end
    → IsFound (FailsAmong ops copied) old new → IsFound (FailsAt (block_ops_at setting) s n) old new
visit_some setting s n ops state copied end old new stands copy e runs found =
    found_same (FailsAmong ops copied) (FailsAt (block_ops_at setting) s n) old new found
    (λ b. (λ fails. forth b fails, λ among. back b among))
  where
    inside : (x y : Regions) → Some x ≡ Some y → x ≡ y
    inside x y same = cc

    forth : (b : Breach) → FailsAt (block_ops_at setting) s n b → FailsAmong ops copied b
    forth b fails =
        let same : fails.state ≡ state = inside fails.state state (sym fails.stands ∙ stands) in
        among_same ops fails.copied copied end b
        (copy_trans fails.copied fails.state copied
        (copy_back fails.state fails.copied fails.is_copy)
        (subst (λ r. IsCopy r copied) (sym same) copy))
        runs (subst (λ os. FailsAmong os fails.copied b) (sym e) fails.fails)

    back : (b : Breach) → FailsAmong ops copied b → FailsAt (block_ops_at setting) s n b
    back b among = record {
      state = state;
      stands = stands;
      copied = copied;
      is_copy = copy;
      fails = subst (λ os. FailsAmong os copied b) e among;
    }

-- the blocks so far
pub visits_start : (setting : FunctionSetting) (s : List (Option Regions)) (list : List Breach)
    → IsFound (FailsBelow setting s 0) list list
visits_start setting s list = found_none (FailsBelow setting s 0) list
    (λ b fails. let h = fails.below in omega arith)

pub visits_more : (setting : FunctionSetting) (s : List (Option Regions)) (n : ℕ)
    (old was new : List Breach)
    → IsFound (FailsBelow setting s n) old was
    → IsFound (FailsAt (block_ops_at setting) s n) was new
    → IsFound (FailsBelow setting s (n + 1)) old new
visits_more setting s n old was new first second =
    found_both (FailsBelow setting s n) (FailsAt (block_ops_at setting) s n)
    (FailsBelow setting s (n + 1)) old was new first second
    (λ b. (λ fails. forth b fails, λ h. back b h))
  where
    forth : (b : Breach) → FailsBelow setting s (n + 1) b
        → FailsBelow setting s n b ⊎ FailsAt (block_ops_at setting) s n b
    forth b fails = elim (cases_eq fails.block n) [
      | inl e ↦ inr (subst (λ k. FailsAt (block_ops_at setting) s k b) e fails.fails)
      | inr other ↦ inl (record {
        block = fails.block;
        below = omega (arith, fails.below, other);
        fails = fails.fails;
      })
    ]

    back : (b : Breach) → FailsBelow setting s n b ⊎ FailsAt (block_ops_at setting) s n b
        → FailsBelow setting s (n + 1) b
    back b (inl fails) = record {
      block = fails.block;
      below = omega (arith, fails.below);
      fails = fails.fails;
    }
    back b (inr fails) = record { block = n; below = omega arith; fails = fails }

-- a test fails on the way through a block that there is
fails_below : (setting : FunctionSetting) (s : List (Option Regions)) (count : ℕ) (b : Breach)
    → length setting.body.blocks ≤ count
    → ((n : ℕ) × FailsAt (block_ops_at setting) s n b) ↔ FailsBelow setting s count b
unfolding block_ops_at
fails_below setting s count b all = (
  λ h. record { block = h.0; below = omega (arith, there h.0 h.1); fails = h.1 },
  λ fails. (fails.block, fails.fails),
)
  where
    there : (n : ℕ) → FailsAt (block_ops_at setting) s n b → n < length setting.body.blocks
    there n fails = elim (cases_lt n (length setting.body.blocks)) [
      | inl within ↦ within
      | inr past ↦ absurd (subst
          (λ o. FailsAmong (option_map_or (block_ops setting) o []) fails.copied b)
          (slice_get_past setting.body.blocks n past) fails.fails)
    ]

-- all blocks
pub all_visited : (analysis : Analysis) → IsAnalysis analysis → (s : List (Option Regions))
    → IsLeastOfBlocks (layout analysis) s → (count : ℕ) (old new : List Breach)
    → length analysis.setting.body.blocks ≤ count
    → IsFound (FailsBelow analysis.setting s count) old new
    → IsFound (IsBreachIn analysis.setting) old new
all_visited analysis fits s least count old new all found =
    found_same (FailsBelow analysis.setting s count) (IsBreachIn analysis.setting) old new found
    (λ b. (
      λ breaks. (fails_below analysis.setting s count b all).0
          ((breaches_are analysis fits s least b).0 breaks),
      λ fails. (breaches_are analysis fits s least b).1
          ((fails_below analysis.setting s count b all).1 fails),
    ))

-- operations that fit the flow's states can be done in a copy of the state at a block
pub fits_copy : (analysis : Analysis) (s : List (Option Regions)) (n : ℕ)
    (state copied : Regions) (ops : List Op) → IsLeastOfBlocks (layout analysis) s
    → value_at s n ≡ Some state → size_of copied ≡ size_of state
    → All (Fits (facts_of analysis)) ops → All (Fits (size_of copied)) ops
fits_copy analysis s n state copied ops least stands sized fit =
    let size : size_of state ≡ facts_of analysis =
    subst (λ v. IfSome v (λ r. size_of r ≡ facts_of analysis)) stands (least.closed.sized n) in
    subst (λ f. All (Fits f) ops) (sym (sized ∙ size)) fit
