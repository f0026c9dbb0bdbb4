-- What a reader has to do with the tokens that open a nest too many, as one record, `Opening`. Each
-- way of putting readers together keeps it.
use Rattle.std.proofs.Common.{◌≡◌, ℕ, suc, ◌≤◌, ◌<◌, max, Bool, true, false, cond, ◌⊎◌, inl, inr}
use Rattle.std.proofs.Common.{List, [], ◌∷◌, ◌++◌, length, refl, sym, ◌∙◌, ap, subst, append_assoc}
use Rattle.std.proofs.Common.{arith, length-append}
use Rattle.std.specs.Prelude.{nat_lt}
use Rattle.std.proofs.lemmas.Bool.{ltb-true, ltb-false}
use Rattle.std.specs.Prelude.{Option, None, Ok, Err}
use Rattle.std.proofs.lemmas.List.{append-nil}
use Rattle.std.proofs.Math.Nat.{le-max_left, le-max_right}
use Rattle.sw_token.specs.Spelling.{Spelled}
use Rattle.sw_grammar_forms.specs.Sets.{Set, starts}
use Rattle.sw_grammar_forms.specs.Relations.{Relation, head}
use Rattle.sw_grammar_forms.specs.Reader.{Answer, Reader, refused, and_then, then_read, checked}
use Rattle.sw_grammar_forms.specs.Reader.{choose, only_if}
use Rattle.sw_grammar_forms.specs.Reader.Fault.{unexpected, too_deep}
use Rattle.sw_grammar_forms.specs.Opens.{Saying, After}
use Rattle.sw_grammar_forms.proofs.ReaderLaws.{Follow, Filled, Reads, passed, ok_parts, bind_err}
use Rattle.sw_grammar_forms.proofs.ReaderLaws.{bind_stop, bind_step, cond_cases, head_after}
use Rattle.sw_grammar_forms.proofs.DepthLaws.{NotDeep, Agrees}

-- the reader finds a nest too many, and the token that opens it isn't one of the last `rest`
abbrev pub TooDeepBefore : {A : Type 0} → Answer A → List Spelled → Type 0
TooDeepBefore answer rest = (left : ℕ) × (answer ≡ Err (too_deep left)) × (length rest < left)

-- What is spelled, of any depth, is read, unless a nest in it is too deep.
abbrev pub Passes : {A : Type 0} → Relation A → Follow A → Reader A → Type 0
Passes {A} V F p = (a : A) (us rest : List Spelled) → V a us → F a (head rest)
    → (p (us ++ rest) ≡ Ok (a, rest)) ⊎ TooDeepBefore (p (us ++ rest)) rest

-- the tokens up to one that opens a nest too many, of which `O` is said
pub record Opened (O : Saying) (tokens : List Spelled) (left : ℕ) : Type 0 where
  pub upto : List Spelled
  pub more : List Spelled
  pub split : tokens ≡ upto ++ more
  pub count : left ≡ suc (length more)
  pub said : O upto

-- `O` is said of tokens the last of which opens a nest too many.
pub record Opening {A : Type 0} (O : Saying) (p : Reader A) : Type 0 where
  -- the reader stops at such a token where it says that a nest is too deep
  pub names : (tokens : List Spelled) (left : ℕ) → p tokens ≡ Err (too_deep left)
      → Opened O tokens left
  -- and it reads over none
  pub finds : (upto more : List Spelled) → O upto → TooDeepBefore (p (upto ++ more)) more
  pub some : (upto : List Spelled) → O upto → 0 < length upto

pub not_empty : (us rest : List Spelled) → 0 < length us → head (us ++ rest) ≡ head us
not_empty [] rest some = absurd (omega arith)
not_empty (u ∷ us) rest some = refl

-- What is spelled is read, or is too deep

module _ {A : Type 0} (V : Relation A) (F : Follow A) (R : ℕ → Relation A) (reader : ℕ → Reader A)
    (laws : (e : ℕ) → Reads (R e) V F (reader e))
    (at_depth : (a : A) (us : List Spelled) → V a us → (e : ℕ) × R e a us)
    (grow : (d e : ℕ) → d ≤ e → (a : A) (us : List Spelled) → R d a us → R e a us)
    (agrees : (d e : ℕ) → d ≤ e → Agrees (reader d) (reader e)) (ends : (a : A) → F a None) where
  -- at a depth that is enough it is read
  reads_all : (d : ℕ) (a : A) (us rest : List Spelled) → (h : V a us) → F a (head rest)
      → reader (max d (at_depth a us h).0) (us ++ rest) ≡ Ok (a, rest)
  reads_all d a us rest h g =
      let deep = at_depth a us h in
      (laws (max d deep.0)).complete a us rest
      (grow deep.0 (max d deep.0) (le-max_right d deep.0) a us deep.1) g

  -- a value that is spelled has no other spelled after it
  none_longer : (a b : A) (us rest : List Spelled) → V a us → F a (head rest) → V b (us ++ rest)
      → 0 < length rest → ⊥
  none_longer a b us rest h g k some =
      let one = at_depth a us h in
      let two = at_depth b (us ++ rest) k in
      let most : ℕ = max one.0 two.0 in
      let short : reader most (us ++ rest) ≡ Ok (a, rest) = (laws most).complete a us rest
      (grow one.0 most (le-max_left one.0 two.0) a us one.1) g in
      let long : reader most ((us ++ rest) ++ []) ≡ Ok (b, []) = (laws most).complete b (us ++ rest)
      [] (grow two.0 most (le-max_right one.0 two.0) b (us ++ rest) two.1) (ends b) in
      let none : rest ≡ [] =
      (ok_parts (sym short ∙ (ap (reader most) (sym (append-nil (us ++ rest))) ∙ long))).1 in
      absurd (omega (arith, ap length none))

  -- of two ways to cut a list, the first is before the second
  cut : (us rest before bad : List Spelled) → us ++ rest ≡ before ++ bad
      → length bad ≤ length rest
      → (mid : List Spelled) × (before ≡ us ++ mid) × (rest ≡ mid ++ bad)
  cut [] rest before bad same less = (before, refl, same)
  cut (u ∷ us) rest [] bad same less =
      absurd (omega (arith, ap length same, length-append (u ∷ us) rest))
  cut (u ∷ us) rest (b ∷ before) bad same less =
      let others : us ++ rest ≡ before ++ bad = ap (λ ws. elim ws [ [] ↦ [] | v ∷ vs ↦ vs ]) same in
      let more = cut us rest before bad others less in
      let first : u ≡ b = ap (λ ws. elim ws [ [] ↦ u | v ∷ vs ↦ v ]) same in
      (more.0, ap (λ v. v ∷ before) (sym first) ∙ ap (λ vs. u ∷ vs) more.1, more.2)

  not_so_far : (a : A) (us mid bad : List Spelled) (left : ℕ) → V a us → F a (head (mid ++ bad))
      → 0 < length bad → Filled V ((us ++ mid) ++ passed (too_deep left) bad) 0 → ⊥
  not_so_far a us mid [] left h g some begun = absurd (omega arith)
  not_so_far a us mid (b ∷ bad) left h g some begun =
      let text : ((us ++ mid) ++ (b ∷ [])) ++ begun.filler ≡ us ++ (mid ++ (b ∷ begun.filler))
      = append_assoc (us ++ mid) (b ∷ []) begun.filler
      ∙ append_assoc us mid (b ∷ begun.filler) in
      none_longer a begun.value us (mid ++ (b ∷ begun.filler)) h
      (subst (F a) (head_after mid (b ∷ bad) (b ∷ begun.filler) refl) g)
      (subst (V begun.value) text begun.spelled)
      (omega (arith, length-append mid (b ∷ begun.filler)))

  too_far : (d : ℕ) (a : A) (us rest : List Spelled) (left : ℕ) → V a us → F a (head rest)
      → reader d (us ++ rest) ≡ Err (too_deep left) → left ≤ length rest → ⊥
  too_far d a us rest left h g e less =
      let bad = (laws d).fails (us ++ rest) (too_deep left) e in
      let count : length bad.bad ≡ left = bad.count in
      let parts = cut us rest bad.before bad.bad bad.split (omega (arith, count)) in
      not_so_far a us parts.0 bad.bad left h (subst (λ ws. F a (head ws)) parts.2 g) (bad.opens tt)
      (subst (λ ws. Filled V (ws ++ passed (too_deep left) bad.bad) 0) parts.1 (bad.begun 0))

  pub passes : (d : ℕ) → Passes V F (reader d)
  passes d a us rest h g = by_answer (reader d (us ++ rest)) refl
    where
      same : NotDeep (reader d (us ++ rest)) → reader d (us ++ rest) ≡ Ok (a, rest)
      same calm =
          sym (agrees d (max d (at_depth a us h).0) (le-max_left d (at_depth a us h).0)
          (us ++ rest) calm)
          ∙ reads_all d a us rest h g

      by_answer : (r : Answer A) → reader d (us ++ rest) ≡ r
          → (reader d (us ++ rest) ≡ Ok (a, rest)) ⊎ TooDeepBefore (reader d (us ++ rest)) rest
      by_answer (Ok x) e = inl (same (subst NotDeep (sym e) tt))
      by_answer (Err (unexpected left)) e = inl (same (subst NotDeep (sym e) tt))
      by_answer (Err (too_deep left)) e = by_length (nat_lt (length rest) left) refl
        where
          by_length : (b : Bool) → nat_lt (length rest) left ≡ b
              → (reader d (us ++ rest) ≡ Ok (a, rest)) ⊎ TooDeepBefore (reader d (us ++ rest)) rest
          by_length true is = inr (left, e, ltb-true (length rest) left is)
          by_length false is =
              absurd (too_far d a us rest left h g e (ltb-false (length rest) left is))

-- Another saying of the same tokens

pub resaid : {A : Type 0} {O Q : Saying} {p : Reader A} → Opening O p
    → ((us : List Spelled) → O us → Q us) → ((us : List Spelled) → Q us → O us) → Opening Q p
resaid opening there back = record {
  names = λ ts left e. let one = opening.names ts left e in
      record {
        upto = one.upto;
        more = one.more;
        split = one.split;
        count = one.count;
        said = there one.upto one.said;
      };
  finds = λ us more h. opening.finds us more (back us h);
  some = λ us h. opening.some us (back us h);
}

-- A reader that opens nothing

abbrev pub Nowhere : Saying
Nowhere us = ⊥

pub opens_never : {A : Type 0} (p : Reader A) → ((ts : List Spelled) → NotDeep (p ts))
    → Opening Nowhere p
opens_never p calm = record {
  names = λ ts left e. absurd (subst NotDeep e (calm ts));
  finds = λ us more h. absurd h;
  some = λ us h. absurd h;
}

-- One reader after another

module _ {A B : Type 0} (P V : Relation A) (F : Follow A) (p : Reader A) (f : A → Reader B)
    (O : Saying) (Q : A → Saying) (reads_p : Reads P V F p) (passes_p : Passes V F p)
    (opens_p : Opening O p) (opens_f : (a : A) → Opening (Q a) (f a))
    (fits : (a : A) (us rest : List Spelled) → Q a us → F a (head (us ++ rest))) where
  then_names : (ts : List Spelled) (left : ℕ) → then_read p f ts ≡ Err (too_deep left)
      → Opened (λ us. O us ⊎ After V Q us) ts left
  then_names ts left e = elim (bind_err (p ts) (λ x. f x.0 x.1) (too_deep left) e) [
    | inl one ↦ (let opened = opens_p.names ts left one in record {
      upto = opened.upto;
      more = opened.more;
      split = opened.split;
      count = opened.count;
      said = inl opened.said;
    })
    | inr two ↦ (
        let found = reads_p.sound ts two.0.0 two.0.1 two.1 in
        let opened = (opens_f two.0.0).names two.0.1 left two.2 in
        record {
          upto = found.prefix ++ opened.upto;
          more = opened.more;
          split = found.split ∙ (ap (λ us. found.prefix ++ us) opened.split
              ∙ sym (append_assoc found.prefix opened.upto opened.more));
          count = opened.count;
          said = inr (record {
            value = two.0.0;
            left = found.prefix;
            right = opened.upto;
            first = reads_p.wide two.0.0 found.prefix found.spelled;
            last = opened.said;
            whole = refl;
          });
        })
  ]

  then_finds : (us more : List Spelled) → O us ⊎ After V Q us
      → TooDeepBefore (then_read p f (us ++ more)) more
  then_finds us more (inl h) = let deep = opens_p.finds us more h in
      (deep.0, bind_stop (p (us ++ more)) (λ x. f x.0 x.1) (too_deep deep.0) deep.1, deep.2)
  then_finds us more (inr h) =
      let text : us ++ more ≡ h.left ++ (h.right ++ more)
      = ap (λ ws. ws ++ more) h.whole ∙ append_assoc h.left h.right more in
      subst (λ ws. TooDeepBefore (then_read p f ws) more) (sym text)
      (elim (passes_p h.value h.left (h.right ++ more) h.first
      (fits h.value h.right more h.last)) [
        | inl read ↦ (let deep = (opens_f h.value).finds h.right more h.last in (
          deep.0,
          bind_step (p (h.left ++ (h.right ++ more))) (λ x. f x.0 x.1)
              (h.value, h.right ++ more) (Err (too_deep deep.0)) read deep.1,
          deep.2,
        ))
        | inr deep ↦ (
          deep.0,
          bind_stop (p (h.left ++ (h.right ++ more))) (λ x. f x.0 x.1) (too_deep deep.0) deep.1,
          omega (arith, deep.2, length-append h.right more),
        )
      ])

  then_some : (us : List Spelled) → O us ⊎ After V Q us → 0 < length us
  then_some us (inl h) = opens_p.some us h
  then_some us (inr h) =
      let some = (opens_f h.value).some h.right h.last in
      omega (arith, ap length h.whole, length-append h.left h.right)

pub opens_then : {A B : Type 0} {P V : Relation A} {F : Follow A} {p : Reader A} {f : A → Reader B}
    {O : Saying} {Q : A → Saying} → Reads P V F p → Passes V F p → Opening O p
    → ((a : A) → Opening (Q a) (f a))
    → ((a : A) (us rest : List Spelled) → Q a us → F a (head (us ++ rest)))
    → Opening (λ us. O us ⊎ After V Q us) (then_read p f)
opens_then {A} {B} {P} {V} {F} {p} {f} {O} {Q} reads_p passes_p opens_p opens_f fits = record {
  names = then_names P V F p f O Q reads_p passes_p opens_p opens_f fits;
  finds = then_finds P V F p f O Q reads_p passes_p opens_p opens_f fits;
  some = then_some P V F p f O Q reads_p passes_p opens_p opens_f fits;
}

-- One of two readers, by the next token

-- whether the first of these tokens is of the set
abbrev pub Begin : Set → Bool → Saying → Type 0
Begin set answer O = (us rest : List Spelled) → O us → starts set (head (us ++ rest)) ≡ answer

module _ {A : Type 0} (set : Set) (p q : Reader A) (O Q : Saying) (opens_p : Opening O p)
    (opens_q : Opening Q q) (first : Begin set true O) (second : Begin set false Q) where
  choose_names : (ts : List Spelled) (left : ℕ) → choose set p q ts ≡ Err (too_deep left)
      → Opened (λ us. O us ⊎ Q us) ts left
  choose_names ts left e =
      elim (cond_cases (starts set (head ts)) (p ts) (q ts) (Err (too_deep left)) e) [
        | inl is ↦ (let one = opens_p.names ts left is.1 in record {
          upto = one.upto;
          more = one.more;
          split = one.split;
          count = one.count;
          said = inl one.said;
        })
        | inr is ↦ (let one = opens_q.names ts left is.1 in record {
          upto = one.upto;
          more = one.more;
          split = one.split;
          count = one.count;
          said = inr one.said;
        })
      ]

  choose_finds : (us more : List Spelled) → O us ⊎ Q us
      → TooDeepBefore (choose set p q (us ++ more)) more
  choose_finds us more (inl h) = subst (λ r. TooDeepBefore r more)
      (sym (ap (λ b. cond b (p (us ++ more)) (q (us ++ more))) (first us more h)))
      (opens_p.finds us more h)
  choose_finds us more (inr h) = subst (λ r. TooDeepBefore r more)
      (sym (ap (λ b. cond b (p (us ++ more)) (q (us ++ more))) (second us more h)))
      (opens_q.finds us more h)

  choose_some : (us : List Spelled) → O us ⊎ Q us → 0 < length us
  choose_some us (inl h) = opens_p.some us h
  choose_some us (inr h) = opens_q.some us h

pub opens_choose : {A : Type 0} (set : Set) {p q : Reader A} {O Q : Saying} → Opening O p
    → Opening Q q → Begin set true O → Begin set false Q
    → Opening (λ us. O us ⊎ Q us) (choose set p q)
opens_choose {A} set {p} {q} {O} {Q} opens_p opens_q first second = record {
  names = choose_names set p q O Q opens_p opens_q first second;
  finds = choose_finds set p q O Q opens_p opens_q first second;
  some = choose_some set p q O Q opens_p opens_q first second;
}

-- A reader whose first token has to pass a test

module _ {A : Type 0} (test : Option Spelled → Bool) (p : Reader A) (O : Saying)
    (opens_p : Opening O p) where
  passed_test : (b : Bool) (ts : List Spelled) (left : ℕ)
      → and_then (cond b (Ok (tt {0}, ts)) (refused ts)) (λ x. p x.1) ≡ Err (too_deep left)
      → (b ≡ true) × (p ts ≡ Err (too_deep left))
  passed_test true ts left e = (refl, e)
  passed_test false ts left e =
      absurd (let clash : ◌≡◌ {A = Answer A} (refused ts) (Err (too_deep left)) = e in cc)

  checked_names : (ts : List Spelled) (left : ℕ) → checked test p ts ≡ Err (too_deep left)
      → Opened (λ us. O us × (test (head us) ≡ true)) ts left
  checked_names ts left e =
      let is = passed_test (test (head ts)) ts left e in
      let one = opens_p.names ts left is.1 in
      record {
        upto = one.upto;
        more = one.more;
        split = one.split;
        count = one.count;
        said = (
          one.said,
          ap test (sym (not_empty one.upto one.more (opens_p.some one.upto one.said))
              ∙ ap head (sym one.split)) ∙ is.0,
        );
      }

  checked_finds : (us more : List Spelled) → O us × (test (head us) ≡ true)
      → TooDeepBefore (checked test p (us ++ more)) more
  checked_finds us more h =
      let first : test (head (us ++ more)) ≡ true =
      ap test (not_empty us more (opens_p.some us h.0)) ∙ h.1 in
      subst (λ r. TooDeepBefore r more)
      (sym (ap (λ b. and_then (cond b (Ok (tt {0}, us ++ more)) (refused (us ++ more)))
      (λ x. p x.1)) first))
      (opens_p.finds us more h.0)

  pub opens_checked : Opening (λ us. O us × (test (head us) ≡ true)) (checked test p)
  opens_checked = record {
    names = checked_names;
    finds = checked_finds;
    some = λ us h. opens_p.some us h.0;
  }

-- The first of two only where a condition holds

pub opens_only : {A : Type 0} (is_so : Bool) {both other : Reader A} {O Q : Saying}
    → (is_so ≡ true → Opening (λ us. O us ⊎ Q us) both) → Opening Q other
    → Opening (λ us. ((is_so ≡ true) × O us) ⊎ Q us) (only_if is_so both other)
opens_only true opens_both opens_other = resaid (opens_both refl)
    (λ us h. elim h [ inl o ↦ inl (refl, o) | inr q ↦ inr q ])
    (λ us h. elim h [ inl o ↦ inl o.1 | inr q ↦ inr q ])
opens_only false opens_both opens_other = resaid opens_other (λ us q. inr q)
    (λ us h. elim h [
      | inl o ↦ absurd (let clash : false ≡ true = o.0 in cc)
      | inr q ↦ q
    ])
