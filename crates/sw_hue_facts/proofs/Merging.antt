-- Colours that merge with the first of them, one after the other: by hue they become one of them.
use Rattle.std.proofs.Common.{◌≡◌, ◌⊎◌, ◌<◌, ℕ, List, [], ◌∷◌, ◌++◌, length, map, Contains, refl}
use Rattle.std.proofs.Common.{sym, subst, ◌∙◌, inl, inr, append_assoc}
use Rattle.std.specs.List.{All}
use Rattle.std.proofs.lemmas.List.{append-nil}
use Rattle.std.proofs.lemmas.List.Elements.{All-head, All-tail, Contains-append_cases}
use Rattle.std.proofs.lemmas.List.Elements.{Contains-append_left, Contains-append_right}
use Rattle.sw_list.proofs.Members.{in_one, one_in}
use Rattle.sw_color_rules.specs.declared.colors.Palette.{Palette}
use Rattle.sw_color_rules.specs.Palette.{IsWhole, merge}
use Rattle.sw_late_facts.specs.Hues.{hue}
use Rattle.sw_late_facts.proofs.HueLemmas.{merge_same}
use Rattle.sw_owner_facts.specs.Colours.{Actor, Colour, OfJob}
use Rattle.sw_hue_facts.proofs.Colours.{cases_among}
use Rattle.sw_hue_facts.proofs.Counts.{merged_count, merged_whole}
use Rattle.sw_hue_facts.proofs.Meeting.{IsKept, IsOneOf, Meets, meets}

-- each of these merges with n
abbrev pub merge_all : ℕ → List ℕ → Palette → Palette
merge_all n [] p = p
merge_all n (m ∷ ms) p = merge_all n ms (merge n m p)

-- The hues that were joined have become k, which is one of them, and all but k were the job's.
pub record Merged (job : ℕ) (a : Actor) (joined : List Colour) (k : Colour) (p q : Palette) : Type 0
  where
    pub whole : IsWhole q
    pub count : length q.names ≡ length p.names
    pub among : Contains joined k
    pub one : IsOneOf job a k
    pub moves : (m : ℕ) → Contains joined (hue p m) → hue q m ≡ k
    pub stays : (m : ℕ) → (Contains joined (hue p m) → ⊥) → hue q m ≡ hue p m
    pub others : (c : Colour) → Contains joined c → (c ≡ k) ⊎ ((n : ℕ) × (c ≡ OfJob job n))

module _ (job : ℕ) (a : Actor) (p : Palette) (n : ℕ) (n_in : n < length p.names) where
  -- one more, which had become k already
  again : (joined : List Colour) (k : Colour) (q : Palette) (m : ℕ) → m < length p.names
      → Merged job a joined k p q → Contains joined (hue p n) → Contains joined (hue p m)
      → Merged job a (joined ++ hue p m ∷ []) k p (merge n m q)
  again joined k q m m_in merged has_n has_m = record {
    whole = merged_whole n m q merged.whole;
    count = merged_count n m q ∙ merged.count;
    among = Contains-append_left joined (hue p m ∷ []) k merged.among;
    one = merged.one;
    moves = λ l has. same l ∙ merged.moves l (before (hue p l) has);
    stays = λ l no. same l ∙ merged.stays l
        (λ has. no (Contains-append_left joined (hue p m ∷ []) (hue p l) has));
    others = λ c has. merged.others c (before c has);
  }
    where
      before : (c : Colour) → Contains (joined ++ hue p m ∷ []) c → Contains joined c
      before c has = elim (Contains-append_cases joined (hue p m ∷ []) c has) [
        | inl old ↦ old
        | inr new ↦ subst (λ d. Contains joined d) (one_in (hue p m) c new) has_m
      ]

      same : (l : ℕ) → hue (merge n m q) l ≡ hue q l
      same = merge_same n m q merged.whole (subst (λ z. n < z) (sym merged.count) n_in)
          (subst (λ z. m < z) (sym merged.count) m_in)
          (merged.moves n has_n ∙ sym (merged.moves m has_m))

  -- one more, which hadn't
  further : (joined : List Colour) (k : Colour) (q : Palette) (m : ℕ) → m < length p.names
      → Merged job a joined k p q → Contains joined (hue p n) → (Contains joined (hue p m) → ⊥)
      → IsOneOf job a (hue p m)
      → (next : Colour) × Merged job a (joined ++ hue p m ∷ []) next p (merge n m q)
  further joined k q m m_in merged has_n no_m one = (
    met.0,
    record {
      whole = merged_whole n m q merged.whole;
      count = merged_count n m q ∙ merged.count;
      among = among (met.1.is);
      one = one_next met.1.is;
      moves = λ l has. met.1.both l (turned l
          (Contains-append_cases joined (hue p m ∷ []) (hue p l) has));
      stays = λ l no.
          let no_old : Contains joined (hue p l) → ⊥ =
          λ has. no (Contains-append_left joined (hue p m ∷ []) (hue p l) has) in
          let is = merged.stays l no_old in
          met.1.others l
          (λ e. no_old (subst (λ d. Contains joined d) (sym (sym is ∙ e ∙ n_is)) merged.among))
          (λ e. no (Contains-append_right joined (hue p m ∷ []) (hue p l)
          (subst (λ d. Contains (hue p m ∷ []) d) (sym (sym is ∙ e ∙ m_is)) (in_one (hue p m)))))
          ∙ is;
      others = λ c has. others c (Contains-append_cases joined (hue p m ∷ []) c has) met.1.is;
    },
  )
    where
      n_is : hue q n ≡ k
      n_is = merged.moves n has_n

      m_is : hue q m ≡ hue p m
      m_is = merged.stays m no_m

      later : (l : ℕ) → hue p m ≡ hue p l → hue q l ≡ hue p m
      later l e = merged.stays l (λ has. no_m (subst (λ d. Contains joined d) (sym e) has)) ∙ sym e

      turned : (l : ℕ) → Contains joined (hue p l) ⊎ Contains (hue p m ∷ []) (hue p l)
          → (hue q l ≡ hue q n) ⊎ (hue q l ≡ hue q m)
      turned l (inl old) = inl (merged.moves l old ∙ sym n_is)
      turned l (inr new) = inr (later l (one_in (hue p m) (hue p l) new) ∙ sym m_is)

      met : (next : Colour) × Meets job (hue q n) (hue q m) next q (merge n m q)
      met = meets job a n m q merged.whole (subst (λ z. n < z) (sym merged.count) n_in)
          (subst (λ z. m < z) (sym merged.count) m_in)
          (subst (λ d. IsOneOf job a d) (sym n_is) merged.one)
          (subst (λ d. IsOneOf job a d) (sym m_is) one)

      among : IsKept job (hue q n) (hue q m) met.0 → Contains (joined ++ hue p m ∷ []) met.0
      among (inl (e, _)) = Contains-append_left joined (hue p m ∷ []) met.0
          (subst (λ d. Contains joined d) (sym (e ∙ n_is)) merged.among)
      among (inr (e, _)) = Contains-append_right joined (hue p m ∷ []) met.0
          (subst (λ d. Contains (hue p m ∷ []) d) (sym (e ∙ m_is)) (in_one (hue p m)))

      one_next : IsKept job (hue q n) (hue q m) met.0 → IsOneOf job a met.0
      one_next (inl (e, _)) = subst (λ d. IsOneOf job a d) (sym (e ∙ n_is)) merged.one
      one_next (inr (e, _)) = subst (λ d. IsOneOf job a d) (sym (e ∙ m_is)) one

      others : (c : Colour) → Contains joined c ⊎ Contains (hue p m ∷ []) c
          → IsKept job (hue q n) (hue q m) met.0 → (c ≡ met.0) ⊎ ((l : ℕ) × (c ≡ OfJob job l))
      others c (inl old) (inl (e, _)) = elim (merged.others c old) [
        | inl same ↦ inl (same ∙ sym (e ∙ n_is))
        | inr owned ↦ inr owned
      ]
      others c (inl old) (inr (e, (l, is))) = elim (merged.others c old) [
        | inl same ↦ inr (l, same ∙ sym n_is ∙ is)
        | inr owned ↦ inr owned
      ]
      others c (inr new) (inl (e, inl same)) =
          inl (sym (one_in (hue p m) c new) ∙ sym m_is ∙ same ∙ sym e)
      others c (inr new) (inl (e, inr (l, is))) =
          inr (l, sym (one_in (hue p m) c new) ∙ sym m_is ∙ is)
      others c (inr new) (inr (e, _)) = inl (sym (one_in (hue p m) c new) ∙ sym m_is ∙ sym e)

  -- and all of them
  merged_on : (ms : List ℕ) → All (λ m. m < length p.names) ms
      → All (λ m. IsOneOf job a (hue p m)) ms → (joined : List Colour) (k : Colour) (q : Palette)
      → Merged job a joined k p q → Contains joined (hue p n)
      → (last : Colour) × Merged job a (joined ++ map (hue p) ms) last p (merge_all n ms q)
  merged_on [] inside ours joined k q merged has =
      (k, subst (λ l. Merged job a l k p q) (sym (append-nil joined)) merged)
  merged_on (m ∷ ms) inside ours joined k q merged has =
      let next = by (cases_among (hue p m) joined) in
      let last = merged_on ms (All-tail (λ l. l < length p.names) m ms inside)
      (All-tail (λ l. IsOneOf job a (hue p l)) m ms ours) (joined ++ hue p m ∷ []) next.0
      (merge n m q) next.1 (Contains-append_left joined (hue p m ∷ []) (hue p n) has) in (
        last.0,
        subst (λ l. Merged job a l last.0 p (merge_all n ms (merge n m q)))
            (append_assoc joined (hue p m ∷ []) (map (hue p) ms)) last.1,
      )
    where
      by : Contains joined (hue p m) ⊎ (Contains joined (hue p m) → ⊥)
          → (next : Colour) × Merged job a (joined ++ hue p m ∷ []) next p (merge n m q)
      by (inl already) = (
        k,
        again joined k q m
            (All-head (λ l. l < length p.names) m ms inside) merged has already,
      )
      by (inr not_yet) = further joined k q m
          (All-head (λ l. l < length p.names) m ms inside) merged has not_yet
          (All-head (λ l. IsOneOf job a (hue p l)) m ms ours)

  pub merged_all : IsWhole p → (ms : List ℕ) → All (λ m. m < length p.names) ms
      → IsOneOf job a (hue p n) → All (λ m. IsOneOf job a (hue p m)) ms
      → (last : Colour) × Merged job a (hue p n ∷ map (hue p) ms) last p (merge_all n ms p)
  merged_all whole ms inside one ours = merged_on ms inside ours (hue p n ∷ []) (hue p n) p
      (record {
        whole = whole;
        count = refl;
        among = in_one (hue p n);
        one = one;
        moves = λ m has. sym (one_in (hue p n) (hue p m) has);
        stays = λ m no. refl;
        others = λ c has. inl (sym (one_in (hue p n) c has));
      }) (in_one (hue p n))
