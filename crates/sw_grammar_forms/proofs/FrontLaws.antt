-- The laws of fronts, of every grammar: a list of tokens has one front or one fault, and the reader
-- finds which.
use Rattle.std.proofs.Common.{◌≡◌, ℕ, suc, ◌-◌, ◌≤◌, max, Bool, true, false, cond, not, ◌⊎◌}
use Rattle.std.proofs.Common.{inl, inr, List, [], ◌∷◌, ◌++◌, length, take, drop, refl, sym, ◌∙◌, ap}
use Rattle.std.proofs.Common.{subst, arith, length-append}
use Rattle.std.proofs.lemmas.List.{append-nil, take_at, take-append-drop, length-drop}
use Rattle.std.proofs.Math.Seq.{drop-append_seam}
use Rattle.std.proofs.Math.Nat.{le-max_left, le-max_right}
use Rattle.std.specs.Prelude.{Ok, Err}
use Rattle.sw_token.specs.Spelling.{Spelled, IsSpelling}
use Rattle.sw_grammar_forms.specs.Sets.{Set, starts}
use Rattle.sw_grammar_forms.specs.Form.{Shape, Form}
use Rattle.sw_grammar_forms.specs.Relations.{Relation, head}
use Rattle.sw_grammar_forms.specs.Reader.{Answer, Fault, Reader, refused, pure, and_then, then_read, check}
use Rattle.sw_grammar_forms.specs.Reader.{finish, whole}
use Rattle.sw_grammar_forms.specs.Reader.Fault.{unexpected, too_deep}
use Rattle.sw_grammar_forms.specs.Spells.{spells, Wide, reads}
use Rattle.sw_grammar_forms.specs.Opens.{opens}
use Rattle.sw_grammar_forms.specs.Whole.{IsTooDeepIn}
use Rattle.sw_grammar_forms.specs.Fronts.{IsFrontOf, HasFront, IsFrontRefused, ends_before, front}
use Rattle.sw_grammar_forms.proofs.ReaderLaws.{Outside, Without, Failed, Reads, ok_parts, bind_ok}
use Rattle.sw_grammar_forms.proofs.ReaderLaws.{bind_err, bind_step, bind_stop, left_of}
use Rattle.sw_grammar_forms.proofs.LoopLaws.{same_ends}
use Rattle.sw_grammar_forms.proofs.FormLaws.{deeper, law}
use Rattle.sw_grammar_forms.proofs.DepthLaws.{NotDeep, Agrees, then_agrees, reads_deeper}
use Rattle.sw_grammar_forms.proofs.WholeLaws.{unexpected_token}
use Rattle.sw_grammar_forms.proofs.GrammarLaws.{read_is_shallow, fault_is_too_deep, opening_of}
use Rattle.sw_grammar_forms.proofs.Rising.{IsSpelling-first}

-- The reader of fronts

module _ {A : Type 0} (R W : Relation A) (ext : Set) (p : Reader A)
    (reads : Reads R W (Without ext) p) where
  -- what is read, if the token after it is none of the set
  abbrev ended : A × List Spelled → Answer A
  ended x = and_then (check (ends_before ext) x.1) (λ y. Ok (x.0, y.1))

  ended_at : (x : A × List Spelled) (b : Bool) → starts ext (head x.1) ≡ b
      → ended x ≡ cond b (Err (unexpected (length x.1))) (Ok x)
  ended_at x b is =
      ap (λ c. and_then (cond (not c) (Ok (tt, x.1)) (refused x.1)) (λ y. Ok (x.0, y.1))) is
      ∙ by_test b
    where
      by_test : (c : Bool)
          → and_then (cond (not c) (Ok (tt {0}, x.1)) (refused x.1)) (λ y. Ok (x.0, y.1))
          ≡ cond c (Err (unexpected (length x.1))) (Ok x)
      by_test true = refl
      by_test false = refl

  pub front_ok : (ts : List Spelled) (a : A) (rest : List Spelled)
      → front ext p ts ≡ Ok (a, rest) → (p ts ≡ Ok (a, rest)) × Outside ext (head rest)
  front_ok ts a rest e =
      let one = bind_ok (p ts) ended (a, rest) e in
      by_test one.0 one.1 one.2 (starts ext (head one.0.1)) refl
    where
      by_test : (x : A × List Spelled) → p ts ≡ Ok x → ended x ≡ Ok (a, rest) → (b : Bool)
          → starts ext (head x.1) ≡ b → (p ts ≡ Ok (a, rest)) × Outside ext (head rest)
      by_test x read e true is =
          let clash : ◌≡◌ {A = Answer A} (Err (unexpected (length x.1))) (Ok (a, rest))
          = sym (ended_at x true is) ∙ e in absurd (cc)
      by_test x read e false is =
          let same : ◌≡◌ {A = Answer A} (Ok x) (Ok (a, rest)) = sym (ended_at x false is) ∙ e in
          (read ∙ same, ap (λ us. starts ext (head us)) (sym (ok_parts same).1) ∙ is)

  front_there : (ts : List Spelled) (a : A) (rest : List Spelled) → p ts ≡ Ok (a, rest)
      → Outside ext (head rest) → front ext p ts ≡ Ok (a, rest)
  front_there ts a rest e out =
      bind_step (p ts) ended (a, rest) (Ok (a, rest)) e (ended_at (a, rest) false out)

  -- the reader's own fault, or a token of the set after what it reads
  front_stops : (ts : List Spelled) (fault : Fault) → front ext p ts ≡ Err fault
      → (p ts ≡ Err fault) ⊎ ((x : A × List Spelled) × (p ts ≡ Ok x)
      × (starts ext (head x.1) ≡ true) × (unexpected (length x.1) ≡ fault))
  front_stops ts fault e = elim (bind_err (p ts) ended fault e) [
    | inl one ↦ inl one
    | inr two ↦ by_test two.0 two.1 two.2 (starts ext (head two.0.1)) refl
  ]
    where
      by_test : (x : A × List Spelled) → p ts ≡ Ok x → ended x ≡ Err fault → (b : Bool)
          → starts ext (head x.1) ≡ b
          → (p ts ≡ Err fault) ⊎ ((x : A × List Spelled) × (p ts ≡ Ok x)
          × (starts ext (head x.1) ≡ true) × (unexpected (length x.1) ≡ fault))
      by_test x read e true is =
          let same : ◌≡◌ {A = Answer A} (Err (unexpected (length x.1))) (Err fault)
          = sym (ended_at x true is) ∙ e in
          inr (
            x,
            read,
            is,
            ap (λ r. elim r [ Ok y ↦ unexpected (length x.1) | Err other ↦ other ]) same,
          )
      by_test x read e false is =
          let clash : ◌≡◌ {A = Answer A} (Ok x) (Err fault) = sym (ended_at x false is) ∙ e in
          absurd (cc)

  -- A token with which what was read might go on is the first with which nothing is spelled.
  going_on : (ts : List Spelled) (x : A × List Spelled) → p ts ≡ Ok x
      → starts ext (head x.1) ≡ true
      → Failed R W (Without ext) ts (unexpected (length x.1))
  going_on ts x read is =
      let found = reads.sound ts x.0 x.1 read in
      let none : found.prefix ++ [] ≡ found.prefix = append-nil found.prefix in
      record {
        before = found.prefix;
        bad = x.1;
        split = found.split;
        count = refl;
        opens = λ deep. absurd deep;
        none = λ value prefix rest more s f same heads.
            let there : p (prefix ++ rest) ≡ Ok (value, rest)
            = reads.complete value prefix rest s f in
            let here : p (found.prefix ++ more) ≡ Ok (x.0, more) = found.stable more heads in
            let ends : rest ≡ more = (ok_parts (sym there ∙ (ap p same ∙ here))).1 in
            let clash : false ≡ true = sym f
            ∙ (ap (λ us. starts ext (head us)) ends ∙ (ap (starts ext) heads ∙ is)) in cc;
        begun = λ from. record {
          value = x.0;
          filler = [];
          spelled = subst (λ us. W x.0 us) (sym (append-nil (found.prefix ++ []) ∙ none))
              (reads.wide x.0 found.prefix found.spelled);
          fills = tt;
        };
      }

  front_fails : (ts : List Spelled) (fault : Fault) → front ext p ts ≡ Err fault
      → Failed R W (Without ext) ts fault
  front_fails ts fault e = elim (front_stops ts fault e) [
    | inl one ↦ reads.fails ts fault one
    | inr two ↦ subst (λ f. Failed R W (Without ext) ts f) two.3
        (going_on ts two.0 two.1 two.2)
  ]

  pub reads_front : Reads R W (Without ext) (front ext p)
  reads_front = record {
    wide = reads.wide;
    sound = λ ts a rest e. let is = front_ok ts a rest e in
        let found = reads.sound ts a rest is.0 in
        record {
          prefix = found.prefix;
          spelled = found.spelled;
          split = found.split;
          stable = λ other heads. front_there (found.prefix ++ other) a other
              (found.stable other heads) (ap (starts ext) heads ∙ is.1);
        };
    complete = λ a prefix rest s f. front_there (prefix ++ rest) a rest
        (reads.complete a prefix rest s f) f;
    fails = front_fails;
    fill = reads.fill;
  }

  -- A nest that is too deep for a front is too deep for all tokens too.
  front_deep : (ts : List Spelled) (left : ℕ) → front ext p ts ≡ Err (too_deep left)
      → whole p ts ≡ Err (too_deep left)
  front_deep ts left e = elim (front_stops ts (too_deep left) e) [
    | inl one ↦ bind_stop (p ts) (λ x. and_then (finish x.1) (λ y. Ok (x.0, y.1)))
        (too_deep left) one
    | inr two ↦ (let clash : unexpected (length two.0.1) ≡ too_deep left = two.3 in absurd (cc))
  ]

  calm_end : (x : A × List Spelled) → NotDeep (and_then (finish x.1) (λ y. Ok (x.0, y.1)))
  calm_end (a, []) = tt
  calm_end (a, t ∷ ts) = tt

  front_calm : (ts : List Spelled) (left : ℕ) → front ext p ts ≡ Err (unexpected left)
      → NotDeep (whole p ts)
  front_calm ts left e = elim (front_stops ts (unexpected left) e) [
    | inl one ↦ subst NotDeep
        (sym (bind_stop (p ts) (λ x. and_then (finish x.1) (λ y. Ok (x.0, y.1))) (unexpected left)
        one)) tt
    | inr two ↦ subst NotDeep
        (sym (ap (λ r. and_then r (λ x. and_then (finish x.1) (λ y. Ok (x.0, y.1)))) two.1))
        (calm_end two.0)
  ]

-- The laws of a grammar's forms

module _ {N : Type 0} (El : N → Type 0) (shape_of : N → Shape)
    (body : (n : N) → Form El shape_of (shape_of n) (El n))
    (good : (n : N) → (shape_of n).ok ≡ true) {s : Shape} {A : Type 0} (form : Form El shape_of s A)
    (ok : s.ok ≡ true) where
  abbrev R : ℕ → Relation A
  R depth = spells El shape_of body depth form

  abbrev W : Relation A
  W = Wide El shape_of body form

  abbrev O : ℕ → List Spelled → Type 0
  O depth = opens El shape_of body depth form

  abbrev reader : ℕ → Reader A
  reader depth = reads El shape_of body depth form

  abbrev fronts : ℕ → Reader A
  fronts depth = front s.ext (reader depth)

  law_of : (depth : ℕ) → Reads (R depth) W (Without s.ext) (reader depth)
  law_of depth = law El shape_of body good depth form ok

  front_law : (depth : ℕ) → Reads (R depth) W (Without s.ext) (fronts depth)
  front_law depth = reads_front (R depth) W s.ext (reader depth) (law_of depth)

  front_deeper : (d e : ℕ) → d ≤ e → Agrees (fronts d) (fronts e)
  front_deeper d e less =
      then_agrees (reader d) (reader e)
      (λ a. then_read (check (ends_before s.ext)) (λ _. pure a))
      (λ a. then_read (check (ends_before s.ext)) (λ _. pure a))
      (reads_deeper El shape_of body d e less form) (λ a ts _. refl)

  -- A token that can't be taken begins no spelling of any depth.
  failed_at_any_depth : (depth : ℕ) (ts : List Spelled) (left : ℕ)
      → fronts depth ts ≡ Err (unexpected left)
      → Failed W W (Without s.ext) ts (unexpected left)
  failed_at_any_depth depth ts left e =
      let bad = (front_law depth).fails ts (unexpected left) e in
      record {
        before = bad.before;
        bad = bad.bad;
        split = bad.split;
        count = bad.count;
        opens = bad.opens;
        none = λ a prefix rest more h g same heads.
            let most : ℕ = max depth h.0 in
            let again : fronts most ts ≡ Err (unexpected left)
            = front_deeper depth most (le-max_left depth h.0) ts (subst NotDeep (sym e) tt) ∙ e in
            let worse = (front_law most).fails ts (unexpected left) again in
            let ends = same_ends bad.before bad.bad worse.before worse.bad
            (sym bad.split ∙ worse.split) (bad.count ∙ sym worse.count) in
            worse.none a prefix rest more
            (deeper El shape_of body good h.0 most (le-max_right depth h.0) form a prefix h.1) g
            (same ∙ ap (λ us. us ++ more) ends.0) (heads ∙ ap head ends.1);
        begun = bad.begun;
      }

  -- What is read is a front, and each front is read.
  pub read_is_front : (depth : ℕ) (ts : List Spelled) → IsSpelling ts → (a : A)
      (rest : List Spelled) → fronts depth ts ≡ Ok (a, rest)
      → IsFrontOf (R depth) s.ext a ts (length ts - length rest)
  read_is_front depth ts is a rest e =
      let found = (front_law depth).sound ts a rest e in
      let size : length ts - length rest ≡ length found.prefix =
      omega (arith, ap length found.split, length-append found.prefix rest) in
      let taken : take (length found.prefix) ts ≡ found.prefix =
      ap (take (length found.prefix)) found.split
      ∙ take_at found.prefix rest (length found.prefix) refl in
      let dropped : drop (length found.prefix) ts ≡ rest =
      ap (drop (length found.prefix)) found.split ∙ drop-append_seam found.prefix rest in
      subst (λ n. IsFrontOf (R depth) s.ext a ts n) (sym size) (record {
        within = omega (arith, ap length found.split, length-append found.prefix rest);
        spelled = record {
          spelling = subst IsSpelling (sym taken)
              (IsSpelling-first found.prefix rest (subst IsSpelling found.split is));
          form = subst (λ us. R depth a us) (sym taken) found.spelled;
        };
        ends = ap (λ us. starts s.ext (head us)) dropped
            ∙ (front_ok (R depth) W s.ext (reader depth) (law_of depth) ts a rest e).1;
      })

  pub front_is_read : (depth : ℕ) (ts : List Spelled) (a : A) (n : ℕ)
      → IsFrontOf (R depth) s.ext a ts n → fronts depth ts ≡ Ok (a, drop n ts)
  front_is_read depth ts a n given =
      ap (fronts depth) (sym (take-append-drop n ts))
      ∙ (front_law depth).complete a (take n ts) (drop n ts) given.spelled.form given.ends

  -- A fault names the first token with which no spelling begins, where there is no front.
  pub fault_refuses_front : (depth : ℕ) (ts : List Spelled) → IsSpelling ts → (left : ℕ)
      → fronts depth ts ≡ Err (unexpected left)
      → IsFrontRefused (O depth) W s.ext ts (length ts - left)
  fault_refuses_front depth ts is left e =
      let bad = failed_at_any_depth depth ts left e in
      record {
        unexpected = unexpected_token W ts is left (record {
          before = bad.before;
          bad = bad.bad;
          split = bad.split;
          count = bad.count;
          opens = bad.opens;
          none = λ a prefix rest more h g same heads. bad.none a prefix rest more h
              (ap (starts s.ext) g) same heads;
          begun = bad.begun;
        });
        none = λ given. bad.none given.0 (take given.1 ts) (drop given.1 ts) bad.bad
            given.2.spelled.form given.2.ends
            (take-append-drop given.1 ts ∙ bad.split) refl;
        shallow = read_is_shallow El shape_of body good form ok depth ts (length ts - left)
            (omega arith)
            (front_calm (R depth) W s.ext (reader depth) (law_of depth) ts left e);
      }

  -- Or the first token that opens a nest too many.
  pub fault_is_deep : (depth : ℕ) (ts : List Spelled) → IsSpelling ts → (left : ℕ)
      → fronts depth ts ≡ Err (too_deep left) → IsTooDeepIn (O depth) W ts (length ts - left)
  fault_is_deep depth ts is left e =
      fault_is_too_deep El shape_of body good form ok depth ts is left
      (front_deep (R depth) W s.ext (reader depth) (law_of depth) ts left e)

  -- A fault is at a token or the end.
  pub fault_within : (depth : ℕ) (ts : List Spelled) (fault : Fault)
      → fronts depth ts ≡ Err fault → left_of fault ≤ length ts
  fault_within depth ts fault e =
      let bad = (front_law depth).fails ts fault e in
      omega (arith, ap length bad.split, length-append bad.before bad.bad, bad.count)

  -- Tokens have one front, of any depth.

  pub one_front : (a b : A) (ts : List Spelled) (m n : ℕ) → IsFrontOf W s.ext a ts m
      → IsFrontOf W s.ext b ts n → (a ≡ b) × (m ≡ n)
  one_front a b ts m n h k =
      let most : ℕ = max h.spelled.form.0 k.spelled.form.0 in
      let one : fronts most ts ≡ Ok (a, drop m ts)
      = ap (fronts most) (sym (take-append-drop m ts))
      ∙ (front_law most).complete a (take m ts) (drop m ts)
      (deeper El shape_of body good h.spelled.form.0 most
      (le-max_left h.spelled.form.0 k.spelled.form.0) form a (take m ts) h.spelled.form.1) h.ends in
      let two : fronts most ts ≡ Ok (b, drop n ts)
      = ap (fronts most) (sym (take-append-drop n ts))
      ∙ (front_law most).complete b (take n ts) (drop n ts)
      (deeper El shape_of body good k.spelled.form.0 most
      (le-max_right h.spelled.form.0 k.spelled.form.0) form b (take n ts) k.spelled.form.1)
      k.ends in
      let both = ok_parts (sym one ∙ two) in
      let m_within : m ≤ length ts = h.within in
      let n_within : n ≤ length ts = k.within in (
        both.0,
        omega (arith, ap length both.1, length-drop m ts, length-drop n ts, m_within, n_within),
      )

  -- A front of a limited depth is a front.
  pub front_widens : (depth : ℕ) (a : A) (ts : List Spelled) (n : ℕ)
      → IsFrontOf (R depth) s.ext a ts n → IsFrontOf W s.ext a ts n
  front_widens depth a ts n h = record {
    within = h.within;
    spelled = record { spelling = h.spelled.spelling; form = (depth, h.spelled.form) };
    ends = h.ends;
  }

  pub never_refused : (depth : ℕ) (ts : List Spelled) (n : ℕ) → HasFront (R depth) s.ext ts
      → ¬ IsFrontRefused (O depth) W s.ext ts n
  never_refused depth ts n h k = k.none (h.0, h.1, front_widens depth h.0 ts h.1 h.2)

  pub never_too_deep : (depth : ℕ) (ts : List Spelled) (n : ℕ) → HasFront (R depth) s.ext ts
      → ¬ IsTooDeepIn (O depth) W ts n
  never_too_deep depth ts n h k =
      let deep = (opening_of El shape_of body good form ok depth).finds (take (suc n) ts)
      (drop (suc n) ts) k.opens in
      let read = (front_ok (R depth) W s.ext (reader depth) (law_of depth) ts h.0
      (drop h.1 ts) (front_is_read depth ts h.0 h.1 h.2)).0 in
      let clash : ◌≡◌ {A = Answer A} (Ok (h.0, drop h.1 ts)) (Err (too_deep deep.0))
      = sym read ∙ (ap (reader depth) (sym (take-append-drop (suc n) ts)) ∙ deep.1) in absurd (cc)

  -- Within any depth there is a front, an unexpected token or one that opens a nest too many.
  pub front_or_fault : (depth : ℕ) (ts : List Spelled) → IsSpelling ts
      → HasFront (R depth) s.ext ts
      ⊎ ((n : ℕ) × (IsFrontRefused (O depth) W s.ext ts n ⊎ IsTooDeepIn (O depth) W ts n))
  front_or_fault depth ts is = by_answer (fronts depth ts) refl
    where
      by_answer : (r : Answer A) → fronts depth ts ≡ r → HasFront (R depth) s.ext ts
          ⊎ ((n : ℕ) × (IsFrontRefused (O depth) W s.ext ts n ⊎ IsTooDeepIn (O depth) W ts n))
      by_answer (Ok x) e =
          inl (x.0, length ts - length x.1, read_is_front depth ts is x.0 x.1 e)
      by_answer (Err (unexpected left)) e =
          inr (length ts - left, inl (fault_refuses_front depth ts is left e))
      by_answer (Err (too_deep left)) e =
          inr (length ts - left, inr (fault_is_deep depth ts is left e))
