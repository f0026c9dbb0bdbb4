-- Which operands of a call are given away, and which are lent.
use Rattle.std.proofs.Common.{◌≡◌, ◌≢◌, ℕ, zero, suc, ◌+◌, ◌<◌, Bool, true, false, not, cond}
use Rattle.std.proofs.Common.{Option, Some, None, List, [], ◌∷◌, ◌++◌, length, Contains, refl, sym}
use Rattle.std.proofs.Common.{ap, ◌∙◌, arith, inl, inr, slice_index_or}
use Rattle.std.specs.List.{slice_get}
use Rattle.std.proofs.lemmas.Bool.{cases_order, not-true}
use Rattle.std.proofs.lemmas.List.Elements.{Contains-append_cases}
use Rattle.sw_list.proofs.ListLemmas.{some_injective, slice_get_after}
use Rattle.sw_list.proofs.Members.{none_in, one_in, first_in, later_in, member_at}
use Rattle.sw_graph.specs.declared.instr.Operand.{Operand}
use Rattle.sw_owner_facts.specs.View.{Element, Register}
use Rattle.sw_region_ops.specs.Elements.{element_at}
use Rattle.sw_region_ops.specs.Marks.{is_wanted}
use Rattle.sw_region_facts.specs.Calling.{passed_from, IsArgument}
use Rattle.sw_region_facts.specs.Moves.{if_tracked, tracked}

-- a tracked operand
record IsTracked (elements : List (Option ℕ)) (operand : Operand) (x : Element) : Type 0 where
  pub number : ℕ
  pub at : element_at elements operand.reg ≡ Some number
  pub is : x ≡ Register operand.reg

one_tracked : (elements : List (Option ℕ)) (operand : Operand) (x : Element)
    → Contains (if_tracked (element_at elements operand.reg) (Register operand.reg ∷ [])) x
    → IsTracked elements operand x
one_tracked elements operand x has = by (element_at elements operand.reg) refl has where
  by : (o : Option ℕ) → element_at elements operand.reg ≡ o
      → Contains (if_tracked o (Register operand.reg ∷ [])) x → IsTracked elements operand x
  by None is has = absurd (none_in x has)
  by (Some number) is has =
      record { number = number; at = is; is = sym (one_in (Register operand.reg) x has) }

-- the tracked operands are registers of operands
pub tracked_operand : (elements : List (Option ℕ)) (operands : List Operand) (x : Element)
    → Contains (tracked elements operands) x
    → (operand : Operand) × Contains operands operand × (x ≡ Register operand.reg)
tracked_operand elements [] x has = absurd (none_in x has)
tracked_operand elements (operand ∷ operands) x has = elim (Contains-append_cases
    (if_tracked (element_at elements operand.reg) (Register operand.reg ∷ []))
    (tracked elements operands) x has) [
      | inl here ↦ (operand, first_in operand operands, (one_tracked elements operand x here).is)
      | inr there ↦
          let more = tracked_operand elements operands x there in
          (more.0, later_in operand operands more.0 more.1, more.2)
    ]

module _ (elements : List (Option ℕ)) (sending : List Bool) (wanted : Bool) where
  -- the argument of index i, where the first is for parameter k
  record IsPassed (k : ℕ) (operands : List Operand) (i : ℕ) (x : Element) : Type 0 where
    pub operand : Operand
    pub at : slice_get operands i ≡ Some operand
    pub is_wanted : is_wanted sending wanted (k + i) ≡ true
    pub tracked : IsTracked elements operand x

  abbrev head_of : ℕ → Operand → List Element
  head_of k operand = cond (is_wanted sending wanted k)
      (if_tracked (element_at elements operand.reg) (Register operand.reg ∷ [])) []

  head_has : (k : ℕ) (operand : Operand) (operands : List Operand) (x : Element)
      → Contains (head_of k operand) x → IsPassed k (operand ∷ operands) 0 x
  head_has k operand operands x has = by (is_wanted sending wanted k) refl has where
    by : (b : Bool) → is_wanted sending wanted k ≡ b → Contains (cond b
        (if_tracked (element_at elements operand.reg) (Register operand.reg ∷ [])) []) x
        → IsPassed k (operand ∷ operands) 0 x
    by false is has = absurd (none_in x has)
    by true is has = record {
      operand = operand;
      at = refl;
      is_wanted = (let here : k + 0 ≡ k = omega arith in
          ap (is_wanted sending wanted) here ∙ is);
      tracked = one_tracked elements operand x has;
    }

  tail_has : (k : ℕ) (operand : Operand) (operands : List Operand) (i : ℕ) (x : Element)
      → IsPassed (k + 1) operands i x → IsPassed k (operand ∷ operands) (suc i) x
  tail_has k operand operands i x passed = record {
    operand = passed.operand;
    at = passed.at;
    is_wanted = (let there : k + suc i ≡ k + 1 + i = omega arith in
        ap (is_wanted sending wanted) there ∙ passed.is_wanted);
    tracked = passed.tracked;
  }

  tail_of : (k : ℕ) (operand : Operand) (operands : List Operand) (i : ℕ) (x : Element)
      → IsPassed k (operand ∷ operands) (suc i) x → IsPassed (k + 1) operands i x
  tail_of k operand operands i x passed = record {
    operand = passed.operand;
    at = passed.at;
    is_wanted = (let there : k + 1 + i ≡ k + suc i = omega arith in
        ap (is_wanted sending wanted) there ∙ passed.is_wanted);
    tracked = passed.tracked;
  }

  head_is : (k : ℕ) (operand : Operand) (operands : List Operand) (x : Element)
      → IsPassed k (operand ∷ operands) 0 x → head_of k operand ≡ x ∷ []
  head_is k operand operands x passed =
      let same : operand ≡ passed.operand = some_injective passed.at in
      let here : k ≡ k + 0 = omega arith in
      ap (λ b. cond b (if_tracked (element_at elements operand.reg) (Register operand.reg ∷ [])) [])
      (ap (is_wanted sending wanted) here ∙ passed.is_wanted)
      ∙ ap (λ (o : Operand). if_tracked (element_at elements o.reg) (Register o.reg ∷ [])) same
      ∙ ap (λ o. if_tracked o (Register passed.operand.reg ∷ [])) passed.tracked.at
      ∙ ap (λ y. y ∷ []) (sym passed.tracked.is)

  -- what is passed on is an argument
  of_passed : (k : ℕ) (operands : List Operand) (x : Element)
      → Contains (passed_from elements sending wanted k operands) x
      → (i : ℕ) × IsPassed k operands i x
  of_passed k [] x has = absurd (none_in x has)
  of_passed k (operand ∷ operands) x has = elim (Contains-append_cases (head_of k operand)
      (passed_from elements sending wanted (k + 1) operands) x has) [
        | inl here ↦ (0, head_has k operand operands x here)
        | inr there ↦
            let more = of_passed (k + 1) operands x there in
            (suc more.0, tail_has k operand operands more.0 x more.1)
      ]

  -- where an argument is among those that are passed on
  in_passed : (k : ℕ) (operands : List Operand) (i : ℕ) (x : Element) → IsPassed k operands i x
      → (n : ℕ) × (slice_get (passed_from elements sending wanted k operands) n ≡ Some x)
  in_passed k [] i x passed = absurd (let at = passed.at in cc)
  in_passed k (operand ∷ operands) zero x passed = (
    0,
    ap (λ l. slice_get (l ++ passed_from elements sending wanted (k + 1) operands) 0)
        (head_is k operand operands x passed),
  )
  in_passed k (operand ∷ operands) (suc i) x passed =
      let more = in_passed (k + 1) operands i x (tail_of k operand operands i x passed) in (
        length (head_of k operand) + more.0,
        slice_get_after (head_of k operand) (passed_from elements sending wanted (k + 1) operands)
            more.0 ∙ more.1,
      )

  -- two arguments are at different places
  two_passed : (k : ℕ) (operands : List Operand) (i j : ℕ) (x y : Element) → i < j
      → IsPassed k operands i x → IsPassed k operands j y
      → (n m : ℕ) × (slice_get (passed_from elements sending wanted k operands) n ≡ Some x)
      × (slice_get (passed_from elements sending wanted k operands) m ≡ Some y) × (n < m)
  two_passed k [] i j x y lt first second = absurd (let at = first.at in cc)
  two_passed k (operand ∷ operands) i zero x y lt first second = absurd (omega (arith, lt))
  two_passed k (operand ∷ operands) zero (suc j) x y lt first second =
      let two = in_passed (k + 1) operands j y (tail_of k operand operands j y second) in
      let head : length (head_of k operand) ≡ 1 =
      ap (λ (l : List Element). length l) (head_is k operand operands x first) in (
        0,
        length (head_of k operand) + two.0,
        ap (λ l. slice_get (l ++ passed_from elements sending wanted (k + 1) operands) 0)
            (head_is k operand operands x first),
        slice_get_after (head_of k operand) (passed_from elements sending wanted (k + 1) operands)
            two.0 ∙ two.1,
        omega (arith, head),
      )
  two_passed k (operand ∷ operands) (suc i) (suc j) x y lt first second =
      let more = two_passed (k + 1) operands i j x y (omega (arith, lt))
      (tail_of k operand operands i x first) (tail_of k operand operands j y second) in (
        length (head_of k operand) + more.0,
        length (head_of k operand) + more.1,
        slice_get_after (head_of k operand) (passed_from elements sending wanted (k + 1) operands)
            more.0 ∙ more.2,
        slice_get_after (head_of k operand) (passed_from elements sending wanted (k + 1) operands)
            more.1 ∙ more.3,
        (let before = more.4 in omega (arith, before)),
      )

  wanted_is : (k : ℕ) → is_wanted sending wanted (0 + k) ≡ true
      → slice_index_or sending k false ≡ wanted
  wanted_is k first =
      let here : 0 + k ≡ k = omega arith in
      by wanted (sym (ap (is_wanted sending wanted) here) ∙ first)
    where
      by : (w : Bool) → is_wanted sending w k ≡ true → slice_index_or sending k false ≡ w
      by true is = is
      by false is = not-true (slice_index_or sending k false) is

  is_wanted_by : (k : ℕ) → slice_index_or sending k false ≡ wanted
      → is_wanted sending wanted (0 + k) ≡ true
  is_wanted_by k is =
      let here : 0 + k ≡ k = omega arith in
      ap (is_wanted sending wanted) here ∙ by wanted is
    where
      by : (w : Bool) → slice_index_or sending k false ≡ w → is_wanted sending w k ≡ true
      by true is = is
      by false is = ap not is

  from_argument : (operands : List Operand) (k : ℕ) (x : Element)
      → IsArgument elements sending wanted operands k x → IsPassed 0 operands k x
  from_argument operands k x argument = record {
    operand = argument.operand;
    at = argument.at;
    is_wanted = is_wanted_by k argument.is_wanted;
    tracked = record { number = argument.number; at = argument.tracked; is = argument.is };
  }

  -- ---- the arguments that are passed on are the tracked ones whose parameter is wanted
  pub arguments : (operands : List Operand) (x : Element)
      → Contains (passed_from elements sending wanted 0 operands) x
      → (k : ℕ) × IsArgument elements sending wanted operands k x
  arguments operands x has =
      let found = of_passed 0 operands x has in
      let passed = found.1 in (
        found.0,
        record {
          operand = passed.operand;
          at = passed.at;
          is_wanted = wanted_is found.0 passed.is_wanted;
          number = passed.tracked.number;
          tracked = passed.tracked.at;
          is = passed.tracked.is;
        },
      )

  pub argument_in : (operands : List Operand) (k : ℕ) (x : Element)
      → IsArgument elements sending wanted operands k x
      → Contains (passed_from elements sending wanted 0 operands) x
  argument_in operands k x argument =
      let place = in_passed 0 operands k x (from_argument operands k x argument) in
      member_at (passed_from elements sending wanted 0 operands) place.0 x place.1

  -- those for two parameters have two places
  pub places_differ : (operands : List Operand) (k l : ℕ) (x y : Element)
      → IsArgument elements sending wanted operands k x
      → IsArgument elements sending wanted operands l y → k ≢ l → (n m : ℕ)
      × (slice_get (passed_from elements sending wanted 0 operands) n ≡ Some x)
      × (slice_get (passed_from elements sending wanted 0 operands) m ≡ Some y) × (n ≢ m)
  places_differ operands k l x y first second differ = elim (cases_order k l) [
    | inl same ↦ absurd (differ same)
    | inr (inl before) ↦
        let places = two_passed 0 operands k l x y before (from_argument operands k x first)
        (from_argument operands l y second) in
        (places.0, places.1, places.2, places.3, λ same. (let lt = places.4 in omega (arith, lt, same)))
    | inr (inr after) ↦
        let places = two_passed 0 operands l k y x after (from_argument operands l y second)
        (from_argument operands k x first) in
        (places.1, places.0, places.3, places.2, λ same. (let lt = places.4 in omega (arith, lt, same)))
  ]
