-- Laws of whole lists of tokens: a list is spelled as one value or has one unexpected token, and
-- not both; and the reader finds which.
use Rattle.std.proofs.Common.{◌≡◌, ℕ, suc, ◌-◌, ◌≤◌, ◌<◌, inl, inr, List, [], ◌∷◌, ◌++◌, length}
use Rattle.std.proofs.Common.{take, drop, refl, sym, ◌∙◌, ap, subst, append_assoc, arith}
use Rattle.std.proofs.Common.{length-append, Bool, true, false, ◌+◌}
use Rattle.std.proofs.lemmas.Bool.{ltb-true, ltb-false}
use Rattle.std.proofs.lemmas.List.{append-nil, take_at, take-take, take-append-drop}
use Rattle.std.proofs.lemmas.List.{length-drop}
use Rattle.std.proofs.lemmas.Bool.{cases_eq}
use Rattle.std.specs.Prelude.{Some, None, Ok, Err, nat_lt}
use Rattle.sw_token.specs.Spelling.{Spelled, IsSpelling}
use Rattle.sw_grammar_forms.specs.Sets.{Set}
use Rattle.sw_grammar_forms.specs.Relations.{Relation, head, NoToken, FollowedBy}
use Rattle.sw_grammar_forms.specs.Reader.{Fault, Answer, Reader, and_then, finish, whole}
use Rattle.sw_grammar_forms.specs.Reader.Fault.{unexpected, too_deep}
use Rattle.sw_grammar_forms.specs.Whole.{IsSpelledAs, IsSpelled, Begins, IsUnexpectedIn, IsTooDeepIn}
use Rattle.sw_grammar_forms.specs.Whole.{IsShallow}
use Rattle.sw_grammar_forms.proofs.ReaderLaws.{Follow, Outside, Without, Filled, Failed, passed, Reads}
use Rattle.sw_grammar_forms.proofs.ReaderLaws.{ok_parts}
use Rattle.sw_grammar_forms.proofs.ReaderLaws.{bind_ok, restate, narrow, reads_pure, reads_then}
use Rattle.sw_grammar_forms.proofs.ReaderLaws.{refused_at_once, bind_err, bind_stop, left_of}
use Rattle.sw_grammar_forms.proofs.DepthLaws.{NotDeep}
use Rattle.sw_grammar_forms.proofs.Opening.{Opening}
use Rattle.sw_grammar_forms.proofs.Rising.{end_of, IsSpelling-completed}

-- The end

abbrev pub IsEnd : {A : Type 0} → Follow A
IsEnd value token = token ≡ None

finish_ok : (ts rest : List Spelled) (a : Unit {0}) → finish ts ≡ Ok (a, rest)
    → (ts ≡ []) × (rest ≡ [])
finish_ok [] rest a e = (refl, sym (ok_parts e).1)
finish_ok (t ∷ ts) rest a e = absurd (cc)

finish_stable : (other : List Spelled) (a : Unit {0}) → head other ≡ None
    → finish other ≡ Ok (a, other)
finish_stable [] a e = refl
finish_stable (t ∷ ts) a e = absurd (cc)

fill_nothing : (from : ℕ) → Filled (NoToken (tt {0})) [] from
fill_nothing from = record { value = tt; filler = []; spelled = (refl, refl); fills = tt }

finish_fails : (ts : List Spelled) (fault : Fault) → finish ts ≡ Err fault
    → Failed (NoToken (tt {0})) (NoToken (tt {0})) IsEnd ts fault
finish_fails [] fault e = absurd (cc)
finish_fails (t ∷ ts) fault e = refused_at_once (NoToken (tt {0})) (NoToken (tt {0})) IsEnd
    (t ∷ ts) fault e
    (λ a prefix rest more s f same heads.
    let first : prefix ++ rest ≡ rest = ap (λ us. us ++ rest) s.1 in
    let chain : None ≡ Some t = sym f ∙ (ap head (sym first ∙ same) ∙ heads) in cc)
    fill_nothing

reads_finish : Reads (NoToken (tt {0})) (NoToken (tt {0})) IsEnd finish
reads_finish = record {
  wide = λ a ts h. h;
  sound = λ ts a rest e. let ends = finish_ok ts rest a e in
      record {
        prefix = [];
        spelled = (refl, refl);
        split = ends.0 ∙ sym ends.1;
        stable = λ other heads. finish_stable other a (heads ∙ ap head ends.1);
      };
  complete = λ a prefix rest s f. ap (λ us. finish (us ++ rest)) s.1 ∙ finish_stable rest a f;
  fails = finish_fails;
  fill = fill_nothing;
}

module _ {A : Type 0} (R W : Relation A) (ext : Set) (p : Reader A)
    (reads : Reads R W (Without ext) p) where
  whole_there : (a : A) (ts : List Spelled)
      → FollowedBy R (λ x. FollowedBy (NoToken (tt {0})) (λ _. NoToken x)) a ts → R a ts
  whole_there a ts h =
      let none : h.right ≡ [] = h.second.whole
      ∙ (ap (λ us. us ++ h.second.right) h.second.first.1 ∙ h.second.second.1) in
      let same : h.left ≡ ts = sym (h.whole ∙ (ap (λ us. h.left ++ us) none ∙ append-nil h.left)) in
      subst (λ x. R x ts) (sym h.second.second.0) (subst (λ us. R h.value us) same h.first)

  whole_back : (a : A) (ts : List Spelled) → R a ts
      → FollowedBy R (λ x. FollowedBy (NoToken (tt {0})) (λ _. NoToken x)) a ts
  whole_back a ts h = record {
    value = a;
    left = ts;
    right = [];
    first = h;
    second = record {
      value = tt;
      left = [];
      right = [];
      first = (refl, refl);
      second = (refl, refl);
      whole = refl;
    };
    whole = sym (append-nil ts);
  }

  reads_whole : Reads R W IsEnd (whole p)
  reads_whole = restate
      (reads_then W reads
      (λ x. reads_then (NoToken x) reads_finish (λ _. narrow (reads_pure x) (λ y token f. tt))
      (λ u y us vs h k. (k.0, ap (λ ws. ws ++ vs) h.1 ∙ k.1))
      (λ u y right rest h f. ap (λ us. head (us ++ rest)) h.1 ∙ f))
      (λ x y us vs h k. subst (λ z. W z (us ++ vs)) (sym k.0)
      (subst (λ ws. W x ws) (sym (ap (λ ws. us ++ ws) k.1 ∙ append-nil us)) h))
      (λ x y right rest h f.
      let none : right ≡ [] = h.whole ∙ (ap (λ us. us ++ h.right) h.first.1 ∙ h.second.1) in
      subst (λ token. Outside ext token) (sym (ap (λ us. head (us ++ rest)) none ∙ f)) refl))
      whole_there whole_back

  -- The reader leaves nothing.
  whole_ends : (ts : List Spelled) (a : A) (rest : List Spelled) → whole p ts ≡ Ok (a, rest)
      → rest ≡ []
  whole_ends ts a rest e =
      let one = bind_ok (p ts) (λ x. and_then (finish x.1) (λ y. Ok (x.0, y.1))) (a, rest) e in
      let two = bind_ok (finish one.0.1) (λ y. Ok (one.0.0, y.1)) (a, rest) one.2 in
      sym (ok_parts two.2).1 ∙ (finish_ok one.0.1 two.0.1 two.0.0 two.1).1

  -- What is spelled is read.
  pub whole_reads : (a : A) (ts : List Spelled) → R a ts → whole p ts ≡ Ok (a, [])
  whole_reads a ts h = ap (whole p) (sym (append-nil ts)) ∙ reads_whole.complete a ts [] h refl

  -- What is read is spelled.
  pub whole_spells : (ts : List Spelled) (a : A) (rest : List Spelled) → whole p ts ≡ Ok (a, rest)
      → R a ts
  whole_spells ts a rest e =
      let found = reads_whole.sound ts a rest e in
      let text : ts ≡ found.prefix = found.split
      ∙ (ap (λ us. found.prefix ++ us) (whole_ends ts a rest e) ∙ append-nil found.prefix) in
      subst (λ us. R a us) (sym text) found.spelled

  pub whole_fails : (ts : List Spelled) (fault : Fault) → whole p ts ≡ Err fault
      → Failed R W IsEnd ts fault
  whole_fails ts fault e = reads_whole.fails ts fault e

-- The tokens before a fault

some_bad : (ts before bad : List Spelled) → ts ≡ before ++ bad → length before < length ts
    → (t : Spelled) × (others : List Spelled) × (bad ≡ t ∷ others)
some_bad ts before [] split less = absurd (omega (arith, ap length split, length-append before []))
some_bad ts before (t ∷ others) split less = (t, others, refl)

no_bad : (ts before bad : List Spelled) → ts ≡ before ++ bad → length before ≡ length ts → bad ≡ []
no_bad ts before [] split same = refl
no_bad ts before (t ∷ others) split same =
    absurd (omega (arith, ap length split, length-append before (t ∷ others)))

take_before : (ts before bad : List Spelled) → ts ≡ before ++ bad → take (length before) ts ≡ before
take_before ts before bad split = ap (λ us. take (length before) us) split
    ∙ take_at before bad (length before) refl

take_one_more : (ts before others : List Spelled) (t : Spelled) → ts ≡ before ++ (t ∷ others)
    → take (suc (length before)) ts ≡ before ++ (t ∷ [])
take_one_more ts before others t split =
    ap (λ us. take (suc (length before)) us) (split ∙ sym (append_assoc before (t ∷ []) others))
    ∙ take_at (before ++ (t ∷ [])) others (suc (length before))
    (omega (arith, length-append before (t ∷ [])))

unexpected_at : {A : Type 0} (R : Relation A) (ts : List Spelled) (left : ℕ) → IsSpelling ts
    → (bad : Failed R R IsEnd ts (unexpected left))
    → IsUnexpectedIn R ts (length bad.before)
unexpected_at R ts left is bad = record {
  within = omega (arith, ap length bad.split, length-append bad.before bad.bad);
  begun = let one = bad.begun (end_of 0 bad.before) in
      let same : bad.before ++ [] ≡ bad.before = append-nil bad.before in
      subst (Begins R) (sym (take_before ts bad.before bad.bad bad.split)) (
        one.value,
        one.filler,
        record {
          spelling = IsSpelling-completed bad.before bad.bad one.filler
              (subst IsSpelling bad.split is) one.fills;
          form = subst (λ us. R one.value (us ++ one.filler)) same one.spelled;
        },
      );
  refused = λ less begins.
      let first = some_bad ts bad.before bad.bad bad.split less in
      let split : ts ≡ bad.before ++ (first.0 ∷ first.1) = bad.split
      ∙ ap (λ us. bad.before ++ us) first.2 in
      let begins' = subst (Begins R) (take_one_more ts bad.before first.1 first.0 split) begins in
      bad.none begins'.0 ((bad.before ++ (first.0 ∷ [])) ++ begins'.1) []
      (first.0 ∷ begins'.1) begins'.2.form refl
      (append-nil ((bad.before ++ (first.0 ∷ [])) ++ begins'.1)
      ∙ append_assoc bad.before (first.0 ∷ []) begins'.1)
      (ap head (sym first.2));
  unfinished = λ same spelled.
      let nothing = no_bad ts bad.before bad.bad bad.split same in
      bad.none spelled.0 ts [] [] spelled.1.form refl
      (append-nil ts ∙ (bad.split ∙ ap (λ us. bad.before ++ us) nothing)) (ap head (sym nothing));
}

-- A fault says which token is unexpected.
pub unexpected_token : {A : Type 0} (R : Relation A) (ts : List Spelled) → IsSpelling ts
    → (left : ℕ) → Failed R R IsEnd ts (unexpected left)
    → IsUnexpectedIn R ts (length ts - left)
unexpected_token R ts is left bad =
    let same : length bad.before ≡ length ts - left =
    omega (arith, ap length bad.split, length-append bad.before bad.bad, bad.count) in
    subst (λ n. IsUnexpectedIn R ts n) same (unexpected_at R ts left is bad)

-- A spelling begins with the token that opens a nest too many and those before it.
pub opened_begins : {A : Type 0} (R W : Relation A) (ts : List Spelled) → IsSpelling ts
    → (left : ℕ) → Failed R W IsEnd ts (too_deep left)
    → (length ts - left < length ts) × Begins W (take (suc (length ts - left)) ts)
opened_begins R W ts is left bad =
    let some : 0 < length bad.bad = bad.opens tt in
    let same : length bad.before ≡ length ts - left =
    omega (arith, ap length bad.split, length-append bad.before bad.bad, bad.count) in
    let less : length bad.before < length ts =
    omega (arith, ap length bad.split, length-append bad.before bad.bad) in
    let first = some_bad ts bad.before bad.bad bad.split less in
    let split : ts ≡ bad.before ++ (first.0 ∷ first.1) =
    bad.split ∙ ap (λ us. bad.before ++ us) first.2 in
    let opened : bad.before ++ passed (too_deep left) bad.bad ≡ bad.before ++ (first.0 ∷ []) =
    ap (λ us. bad.before ++ passed (too_deep left) us) first.2 in
    let taken : take (suc (length bad.before)) ts ≡ bad.before ++ (first.0 ∷ []) =
    take_one_more ts bad.before first.1 first.0 split in
    let one = bad.begun (end_of 0 (bad.before ++ (first.0 ∷ []))) in
    subst (λ n. (n < length ts) × Begins W (take (suc n) ts)) same (
      less,
      subst (Begins W) (sym taken) (
        one.value,
        one.filler,
        record {
          spelling = IsSpelling-completed (bad.before ++ (first.0 ∷ [])) first.1 one.filler
              (subst IsSpelling (split ∙ sym (append_assoc bad.before (first.0 ∷ []) first.1)) is)
              one.fills;
          form = subst (λ us. W one.value (us ++ one.filler)) opened one.spelled;
        },
      ),
    )

-- Among tokens of which each that opens a nest too many is a fault of the reader, the one that it
-- names is the first.

module _ {A : Type 0} (Opens : List Spelled → Type 0) (p : Reader A) (opening : Opening Opens p)
    (ts : List Spelled) where
  finish_calm : (us : List Spelled) (left : ℕ) → finish us ≡ Err (too_deep left) → ⊥
  finish_calm [] left e =
      let clash : ◌≡◌ {A = Answer (Unit {0})} (Ok (tt, [])) (Err (too_deep left))
      = e in cc
  finish_calm (u ∷ us) left e = let clash : ◌≡◌ {A = Answer (Unit {0})}
      (Err (unexpected (suc (length us)))) (Err (too_deep left)) = e in cc

  -- the reader's own fault, where all tokens are to be read
  whole_deep : (left : ℕ) → whole p ts ≡ Err (too_deep left) → p ts ≡ Err (too_deep left)
  whole_deep left e =
      elim (bind_err (p ts) (λ x. and_then (finish x.1) (λ y. Ok (x.0, y.1))) (too_deep left) e) [
        | inl one ↦ one
        | inr two ↦
            elim (bind_err (finish two.0.1) (λ y. Ok (two.0.0, y.1)) (too_deep left) two.2) [
              | inl three ↦ absurd (finish_calm two.0.1 left three)
              | inr four ↦ absurd (let clash : ◌≡◌ {A = Answer A} (Ok (two.0.0, four.0.1))
                  (Err (too_deep left)) = four.2 in cc)
            ]
      ]

  pub opened_token : (left : ℕ) → whole p ts ≡ Err (too_deep left)
      → Opens (take (suc (length ts - left)) ts)
  opened_token left e =
      let opened = opening.names ts left (whole_deep left e) in
      let size : length opened.upto ≡ suc (length ts - left) =
      omega (
        arith,
        opened.count,
        ap length opened.split,
        length-append opened.upto opened.more,
        opening.some opened.upto opened.said,
      ) in
      subst Opens
      (sym (ap (take (suc (length ts - left))) opened.split
      ∙ take_at opened.upto opened.more (suc (length ts - left)) size)) opened.said

  opened_fault : (m : ℕ) → m < length ts → Opens (take (suc m) ts)
      → (left : ℕ) × (whole p ts ≡ Err (too_deep left)) × (length ts ≤ m + left)
  opened_fault m less h =
      let deep = opening.finds (take (suc m) ts) (drop (suc m) ts) h in
      let text : take (suc m) ts ++ drop (suc m) ts ≡ ts = take-append-drop (suc m) ts in (
        deep.0,
        bind_stop (p ts) (λ x. and_then (finish x.1) (λ y. Ok (x.0, y.1))) (too_deep deep.0)
            (ap p (sym text) ∙ deep.1),
        omega (arith, deep.2, length-drop (suc m) ts),
      )

  pub first_opened : (left : ℕ) → whole p ts ≡ Err (too_deep left)
      → IsShallow Opens ts (length ts - left)
  first_opened left e m less h =
      let deep = opened_fault m (omega arith) h in
      let same : left ≡ deep.0 =
      ap (λ r. elim r [ Ok x ↦ 0 | Err fault ↦ left_of fault ]) (sym e ∙ deep.1) in
      omega (arith, deep.2, same)

  pub none_opened : (n : ℕ) → n ≤ length ts → NotDeep (whole p ts) → IsShallow Opens ts n
  none_opened n within calm m less h =
      let deep = opened_fault m (omega arith) h in subst NotDeep deep.1 calm

-- A fault is at a token or the end.
pub fault_within : {A : Type 0} (R W : Relation A) (F : Follow A) (ts : List Spelled) (left : ℕ)
    → Failed R W F ts (unexpected left) → left ≤ length ts
fault_within R W F ts left bad =
    omega (arith, ap length bad.split, length-append bad.before bad.bad, bad.count)

-- A list that is spelled has no unexpected token.
pub none_unexpected : {A : Type 0} (R : Relation A) (ts : List Spelled) (n : ℕ) → IsSpelled R ts
    → ¬ IsUnexpectedIn R ts n
none_unexpected R ts n h k = elim (cases_eq n (length ts)) [
  | inl same ↦ k.unfinished same h
  | inr differs ↦ (let within : n ≤ length ts = k.within in
      k.refused (omega arith) (
        h.0,
        drop (suc n) ts,
        subst (IsSpelledAs R h.0) (sym (take-append-drop (suc n) ts)) h.1,
      ))
]

-- There is one first token that opens a nest too many.
pub one_too_deep : {A : Type 0} (Opens : List Spelled → Type 0) (R : Relation A)
    (ts : List Spelled) (j k : ℕ) → IsTooDeepIn Opens R ts j → IsTooDeepIn Opens R ts k → j ≡ k
one_too_deep Opens R ts j k h h' =
    let not_before : j < k → ⊥ = λ less. h'.first j less h.opens in
    let not_after : k < j → ⊥ = λ less. h.first k less h'.opens in
    omega arith

no_earlier : {A : Type 0} (R : Relation A) (ts : List Spelled) (j k : ℕ) → IsUnexpectedIn R ts j
    → IsUnexpectedIn R ts k → j < k → ⊥
no_earlier R ts j k h h' less =
    let within : k ≤ length ts = h'.within in
    let begun = h'.begun in
    let split : take k ts ≡ take (suc j) ts ++ drop (suc j) (take k ts)
    = sym (take-append-drop (suc j) (take k ts)) ∙ ap (λ us. us ++ drop (suc j) (take k ts))
    (take-take (suc j) k ts less) in
    h.refused (omega arith) (
      begun.0,
      drop (suc j) (take k ts) ++ begun.1,
      subst (IsSpelledAs R begun.0)
          (ap (λ us. us ++ begun.1) split
          ∙ append_assoc (take (suc j) ts) (drop (suc j) (take k ts)) begun.1) begun.2,
    )

-- There is one unexpected token.
pub one_unexpected : {A : Type 0} (R : Relation A) (ts : List Spelled) (j k : ℕ)
    → IsUnexpectedIn R ts j → IsUnexpectedIn R ts k → j ≡ k
one_unexpected R ts j k h h' =
    let not_before = no_earlier R ts j k h h' in
    let not_after = no_earlier R ts k j h' h in
    omega arith

-- A token that can't be taken and one that opens a nest too many aren't both the first fault.
pub unexpected_or_deep : {A : Type 0} (Opens : List Spelled → Type 0) (R : Relation A)
    (ts : List Spelled) (j k : ℕ) → IsUnexpectedIn R ts j → IsShallow Opens ts j
    → ¬ IsTooDeepIn Opens R ts k
unexpected_or_deep Opens R ts j k h shallow deep = by_order (nat_lt k j) refl
  where
    by_order : (b : Bool) → nat_lt k j ≡ b → ⊥
    by_order true is = shallow k (ltb-true k j is) deep.opens
    by_order false is =
        let order : j ≤ k = ltb-false k j is in
        let within : k < length ts = deep.within in
        let begun = deep.begun in
        let split : take (suc k) ts ≡ take (suc j) ts ++ drop (suc j) (take (suc k) ts)
        = sym (take-append-drop (suc j) (take (suc k) ts))
        ∙ ap (λ us. us ++ drop (suc j) (take (suc k) ts))
        (take-take (suc j) (suc k) ts (omega arith)) in
        h.refused (omega arith) (
          begun.0,
          drop (suc j) (take (suc k) ts) ++ begun.1,
          subst (IsSpelledAs R begun.0)
              (ap (λ us. us ++ begun.1) split
              ∙ append_assoc (take (suc j) ts) (drop (suc j) (take (suc k) ts)) begun.1) begun.2,
        )
