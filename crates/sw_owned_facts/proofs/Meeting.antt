-- Colours that merge with the first of them: whose each of them was, and that all others stay.
use Rattle.std.proofs.Common.{◌≡◌, ◌≢◌, ◌⊎◌, ◌<◌, ℕ, Bool, true, false, cond, eqb, ltb, Option}
use Rattle.std.proofs.Common.{Some, None, List, [], ◌∷◌, map, Contains, refl, sym, subst, ap, ◌∙◌}
use Rattle.std.proofs.Common.{inl, inr}
use Rattle.std.specs.List.{All}
use Rattle.std.proofs.lemmas.Bool.{cases_eq}
use Rattle.std.proofs.lemmas.List.Elements.{All-head, All-tail}
use Rattle.sw_list.proofs.Members.{first_in, first_or_later, later_in, none_in}
use Rattle.sw_color_rules.specs.Changes.{Merge}
use Rattle.sw_late_facts.proofs.Handing.{IsSight, met_sight}
use Rattle.sw_late_facts.proofs.Names.{joined, joined_apart}
use Rattle.sw_late_facts.proofs.Seen.{Jobs, job_handed, job_united, see_in, seen}
use Rattle.sw_late_facts.proofs.Sights.{met, met_first, met_other, met_second, met_together}
use Rattle.sw_late_facts.proofs.Sights.{owner_met}
use Rattle.sw_owned_facts.proofs.Keeping.{together_on}

-- What becomes of a colour where some merge: it was one of them and is one with the one whose owner
-- it has, or it was none of them and stays.
pub data Met (ns : List ℕ) (first : ℕ) (s t : Jobs) (n : ℕ) : Type 0 where
  Joined : (l m : ℕ) → Contains ns l → Contains ns m → s.name l ≡ s.name n → t.name n ≡ t.name m
      → t.owner n ≡ s.owner m → Met ns first s t n
  Apart : t.owner n ≡ s.owner n → t.name n ≢ t.name first
      → ((l : ℕ) → Contains ns l → s.name l ≢ s.name n) → Met ns first s t n

-- the owner of two colours is that of one of them
united_one : (x y : Option ℕ) → (job_united x y ≡ x) ⊎ (job_united x y ≡ y)
united_one None y = inl refl
united_one (Some i) y = inr refl

met_one : (a b : ℕ) (x y : Option ℕ)
    → (owner_met job_united a b x y ≡ x) ⊎ (owner_met job_united a b x y ≡ y)
met_one a b x y = by (eqb a b) (ltb a b) where
  by : (same low : Bool)
      → (cond same x (cond low (job_united x y) (job_united y x)) ≡ x)
      ⊎ (cond same x (cond low (job_united x y) (job_united y x)) ≡ y)
  by true low = inl refl
  by false true = united_one x y
  by false false = elim (united_one y x) [
    | inl is ↦ inr is
    | inr is ↦ inl is
  ]

module _ (a b : ℕ) (ns : List ℕ) (s t : Jobs)
    (keeps : (m n : ℕ) → (met job_united a b s).name m ≡ (met job_united a b s).name n
    → t.name m ≡ t.name n) where
  abbrev one : Jobs
  one = met job_united a b s

  abbrev all : List ℕ
  all = a ∷ b ∷ ns

  a_in : Contains all a
  a_in = first_in a (b ∷ ns)

  b_in : Contains all b
  b_in = later_in a (b ∷ ns) b (first_in b ns)

  still : (l : ℕ) → Contains (a ∷ ns) l → Contains all l
  still l has = elim (first_or_later a ns l has) [
    | inl same ↦ subst (Contains all) same a_in
    | inr there ↦ later_in a (b ∷ ns) l (later_in b ns l there)
  ]

  turns : (m n : ℕ) → s.name m ≡ s.name n → one.name m ≡ one.name n
  turns m n same = ap (joined (s.name a) (s.name b)) same

  -- a colour that is one with another was so, or was one of the two
  was : (l n : ℕ) → Contains all l → one.name l ≡ one.name n
      → (k : ℕ) × Contains all k × (s.name k ≡ s.name n)
  was l n has same = elim (cases_eq (s.name n) (s.name a)) [
    | inl is ↦ (a, a_in, sym is)
    | inr no_a ↦ elim (cases_eq (s.name n) (s.name b)) [
      | inl is ↦ (b, b_in, sym is)
      | inr no_b ↦ (
        l,
        has,
        sym (joined_apart (s.name a) (s.name b) (s.name n) no_a no_b (s.name l) (sym same)),
      )
    ]
  ]

  -- and its owner was that of one which it is one with
  of_two : (m : ℕ) → one.name m ≡ one.name a → (o : Option ℕ)
      → (o ≡ s.owner a) ⊎ (o ≡ s.owner b)
      → (k : ℕ) × Contains all k × (one.name m ≡ one.name k) × (o ≡ s.owner k)
  of_two m same o (inl is) = (a, a_in, same, is)
  of_two m same o (inr is) = (b, b_in, same ∙ sym (met_together job_united a b s), is)

  owned : (m : ℕ) → Contains all m
      → (k : ℕ) × Contains all k × (one.name m ≡ one.name k) × (one.owner m ≡ s.owner k)
  owned m has = elim (cases_eq (s.name m) (s.name a)) [
    | inl is ↦ of_two m (turns m a is) (one.owner m) (subst
        (λ o. (o ≡ s.owner a) ⊎ (o ≡ s.owner b)) (sym (met_first job_united a b s m is))
        (met_one (s.name a) (s.name b) (s.owner a) (s.owner b)))
    | inr no_a ↦ elim (cases_eq (s.name m) (s.name b)) [
      | inl is ↦ of_two m (turns m b is ∙ met_together job_united a b s) (one.owner m) (subst
          (λ o. (o ≡ s.owner a) ⊎ (o ≡ s.owner b)) (sym (met_second job_united a b s m is))
          (met_one (s.name a) (s.name b) (s.owner a) (s.owner b)))
      | inr no_b ↦ (m, has, refl, met_other job_united a b s m no_a no_b)
    ]
  ]

  more : (n : ℕ) → Met (a ∷ ns) a one t n → Met (a ∷ b ∷ ns) a s t n
  more n (Joined l m l_in m_in same name owner) =
      let from = was l n (still l l_in) same in
      let of = owned m (still m m_in) in
      Joined from.0 of.0 from.1 of.1 from.2 (name ∙ keeps m of.0 of.2) (owner ∙ of.3)
  more n (Apart owner unlike lacks) =
      Apart (owner ∙ met_other job_united a b s n (λ is. no_a (sym is)) (λ is. no_b (sym is)))
      unlike none
    where
      no_a : s.name a ≢ s.name n
      no_a is = lacks a (first_in a ns) (turns a n is)

      no_b : s.name b ≢ s.name n
      no_b is = lacks a (first_in a ns)
          (sym (met_together job_united a b s) ∙ turns b n is)

      none : (l : ℕ) → Contains (a ∷ b ∷ ns) l → s.name l ≢ s.name n
      none l has is = elim (first_or_later a (b ∷ ns) l has) [
        | inl same ↦ no_a (ap s.name same ∙ is)
        | inr there ↦ elim (first_or_later b ns l there) [
          | inl same ↦ no_b (ap s.name same ∙ is)
          | inr later ↦ lacks l (later_in a ns l later) (turns l n is)
        ]
      ]

-- these merge with the first
pub merged : (a : ℕ) (ns : List ℕ) (s : Jobs) → IsSight s → a < s.count
    → All (λ m. m < s.count) ns → (n : ℕ) → Met (a ∷ ns) a s (seen (map (Merge a) ns) s) n
merged a [] s is low below n = elim (cases_eq (s.name n) (s.name a)) [
  | inl same ↦ Joined a a (first_in a []) (first_in a []) (sym same) same (is.owners n a same)
  | inr other ↦ Apart refl other (λ l has same. elim (first_or_later a [] l has) [
    | inl at ↦ other (sym same ∙ ap s.name (sym at))
    | inr there ↦ none_in l there
  ])
]
merged a (b ∷ ns) s is low below n =
    let next_low = All-head (λ m. m < s.count) b ns below in
    subst (λ (r : Jobs). Met (a ∷ b ∷ ns) a s (seen (map (Merge a) ns) r) n)
    (sym (see_in a b s low next_low))
    (more a b ns s (seen (map (Merge a) ns) (met job_united a b s))
    (together_on (map (Merge a) ns) (met job_united a b s)) n
    (merged a ns (met job_united a b s) (met_sight job_united job_handed a b s is low next_low) low
    (All-tail (λ m. m < s.count) b ns below) n))
