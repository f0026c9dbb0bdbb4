-- What a reader has to do with the relation that it reads, as one record, `Reads`. Each way of
-- putting readers together keeps it. The theorems about a grammar (one value, one fault, and that
-- the token at fault is the first that can't be taken) follow from the record.
use Rattle.std.proofs.Common.{◌≡◌, ℕ, ◌+◌, ◌<◌, Bool, true, false, cond, ◌⊎◌, inl, inr, List, []}
use Rattle.std.proofs.Common.{◌∷◌, ◌++◌, length, refl, sym, ◌∙◌, ap, subst, append_assoc}
use Rattle.std.specs.Prelude.{Option, Some, None, Result, Ok, Err}
use Rattle.sw_token.specs.Spelling.{Spelled, IsTokenText}
use Rattle.sw_grammar_forms.specs.Sets.{Set, has, starts}
use Rattle.sw_grammar_forms.specs.Form.{Terminal}
use Rattle.sw_grammar_forms.specs.Relations.{Relation, head, NoToken, One, FollowedBy, Either, Only}
use Rattle.sw_grammar_forms.specs.Relations.{Passing}
use Rattle.sw_grammar_forms.specs.Reader.{Fault, Answer, Reader, refused, pure, and_then, then_read}
use Rattle.sw_grammar_forms.specs.Reader.{take_if, next, checked, choose, only_if}
use Rattle.sw_grammar_forms.specs.Reader.Fault.{unexpected, too_deep}

-- what is asked of the token that follows what spells a value
abbrev pub Follow : Type 0 → Type 1
Follow A = A → Option Spelled → Type 0

abbrev pub Anything : {A : Type 0} → Follow A
Anything value token = Unit {0}

-- no token of a set
abbrev pub Outside : Set → Option Spelled → Type 0
Outside set token = starts set token ≡ false

abbrev pub Without : {A : Type 0} → Set → Follow A
Without set value token = Outside set token

-- Tokens of a spelling, each where the one before it ends, the first at `from`.
abbrev pub Fills : ℕ → List Spelled → Type 0
Fills from [] = Unit {0}
Fills from (token ∷ others) = (token.at ≡ from) × IsTokenText token.text
    × Fills (from + length token.text) others

abbrev pub past : ℕ → List Spelled → ℕ
past from [] = from
past from (token ∷ others) = past (from + length token.text) others

pub Fills-append : (from : ℕ) (us vs : List Spelled) → Fills from us → Fills (past from us) vs
    → Fills from (us ++ vs)
Fills-append from [] vs h k = k
Fills-append from (u ∷ us) vs h k =
    (h.0, h.1, Fills-append (from + length u.text) us vs h.2 k)

-- `before` can be completed to a spelling, with new tokens from the position `from` on.
pub record Filled {A : Type 0} (R : Relation A) (before : List Spelled) (from : ℕ) : Type 0 where
  pub value : A
  pub filler : List Spelled
  pub spelled : R value (before ++ filler)
  pub fills : Fills from filler

-- `tokens` begin with a spelling of the value, after which `rest` is left, and the reader answers
-- the same whatever stands after the first token of `rest`.
pub record Found {A : Type 0} (R : Relation A) (p : Reader A) (tokens : List Spelled) (value : A)
    (rest : List Spelled) : Type 0 where
  pub prefix : List Spelled
  pub spelled : R value prefix
  pub split : tokens ≡ prefix ++ rest
  pub stable : (other : List Spelled) → head other ≡ head rest
      → p (prefix ++ other) ≡ Ok (value, other)

-- how many tokens are left from the one at fault on
abbrev pub left_of : Fault → ℕ
left_of (unexpected left) = left
left_of (too_deep left) = left

abbrev pub IsDeep : Fault → Type 0
IsDeep (unexpected left) = ⊥
IsDeep (too_deep left) = Unit {0}

-- of the tokens from the one at fault on, those that a spelling of some depth may still begin with
abbrev pub passed : Fault → List Spelled → List Spelled
passed (unexpected left) bad = []
passed (too_deep left) [] = []
passed (too_deep left) (token ∷ _) = token ∷ []

-- `tokens` stop being a spelling at a token: no spelling of `R` with what may follow it begins with
-- the tokens before that one and it, and some spelling of `W` begins with those before it; where it
-- opens a nest too many, also with those before it and it.
pub record Failed {A : Type 0} (R W : Relation A) (F : Follow A) (tokens : List Spelled)
    (fault : Fault) : Type 0 where
  pub before : List Spelled
  pub bad : List Spelled
  pub split : tokens ≡ before ++ bad
  pub count : length bad ≡ left_of fault
  pub opens : IsDeep fault → 0 < length bad
  pub none : (value : A) (prefix rest more : List Spelled) → R value prefix → F value (head rest)
      → prefix ++ rest ≡ before ++ more → head more ≡ head bad → ⊥
  pub begun : (from : ℕ) → Filled W (before ++ passed fault bad) from

-- The reader reads what `R` spells, where a token of `F` follows. `W` spells more: `R` without its
-- limit on nests.
pub record Reads {A : Type 0} (R W : Relation A) (F : Follow A) (p : Reader A) : Type 0 where
  pub wide : (value : A) (tokens : List Spelled) → R value tokens → W value tokens
  pub sound : (tokens : List Spelled) (value : A) (rest : List Spelled)
      → p tokens ≡ Ok (value, rest)
      → Found R p tokens value rest
  pub complete : (value : A) (prefix rest : List Spelled) → R value prefix → F value (head rest)
      → p (prefix ++ rest) ≡ Ok (value, rest)
  pub fails : (tokens : List Spelled) (fault : Fault) → p tokens ≡ Err fault
      → Failed R W F tokens fault
  pub fill : (from : ℕ) → Filled W [] from

-- On lists and results

pub head_after : (us vs ws : List Spelled) → head vs ≡ head ws → head (us ++ vs) ≡ head (us ++ ws)
head_after [] vs ws same = same
head_after (u ∷ us) vs ws same = refl

pub ok_parts : {A : Type 0} {a b : A} {us vs : List Spelled}
    → ◌≡◌ {A = Answer A} (Ok (a, us)) (Ok (b, vs))
    → (a ≡ b) × (us ≡ vs)
ok_parts {A} {a} {b} {us} {vs} same = (
  ap (λ r. elim r [ Ok x ↦ x.0 | Err n ↦ a ]) same,
  ap (λ r. elim r [ Ok x ↦ x.1 | Err n ↦ us ]) same,
)

pub bind_ok : {X Y : Type 0} (r : Result X Fault) (f : X → Result Y Fault) (y : Y)
    → and_then r f ≡ Ok y
    → (x : X) × (r ≡ Ok x) × (f x ≡ Ok y)
bind_ok (Ok x) f y same = (x, refl, same)
bind_ok (Err fault) f y same = absurd (cc)

pub bind_err : {X Y : Type 0} (r : Result X Fault) (f : X → Result Y Fault) (fault : Fault)
    → and_then r f ≡ Err fault
    → (r ≡ Err fault) ⊎ ((x : X) × (r ≡ Ok x) × (f x ≡ Err fault))
bind_err (Ok x) f fault same = inr (x, refl, same)
bind_err (Err other) f fault same = inl (cc)

pub bind_step : {X Y : Type 0} (r : Result X Fault) (f : X → Result Y Fault) (x : X)
    (s : Result Y Fault)
    → r ≡ Ok x → f x ≡ s → and_then r f ≡ s
bind_step r f x s one two = ap (λ q. and_then q f) one ∙ two

pub bind_stop : {X Y : Type 0} (r : Result X Fault) (f : X → Result Y Fault) (fault : Fault)
    → r ≡ Err fault
    → and_then r f ≡ Err fault
bind_stop r f fault e = ap (λ q. and_then q f) e

pub cond_cases : {X : Type 0} (b : Bool) (x y z : X) → cond b x y ≡ z
    → ((b ≡ true) × (x ≡ z)) ⊎ ((b ≡ false) × (y ≡ z))
cond_cases true x y z same = inl (refl, same)
cond_cases false x y z same = inr (refl, same)

-- the token at fault is the next
pub refused_at_once : {A : Type 0} (R W : Relation A) (F : Follow A) (tokens : List Spelled)
    (fault : Fault)
    → ◌≡◌ {A = Answer A} (refused tokens) (Err fault)
    → ((value : A) (prefix rest more : List Spelled) → R value prefix → F value (head rest)
    → prefix ++ rest ≡ more
    → head more ≡ head tokens → ⊥) → ((from : ℕ) → Filled W [] from) → Failed R W F tokens fault
refused_at_once {A} R W F tokens fault e none fill =
    let same : unexpected (length tokens) ≡ fault =
    ap (λ r. elim r [ Ok x ↦ unexpected (length tokens) | Err other ↦ other ]) e in
    subst (λ f. Failed R W F tokens f) same (record {
      before = [];
      bad = tokens;
      split = refl;
      count = refl;
      opens = λ deep. absurd deep;
      none = none;
      begun = fill;
    })

-- Another relation with the same spellings

pub restate : {A : Type 0} {R S W : Relation A} {F : Follow A} {p : Reader A} → Reads R W F p
    → ((a : A) (ts : List Spelled) → R a ts → S a ts)
    → ((a : A) (ts : List Spelled) → S a ts → R a ts) → Reads S W F p
restate reads there back = record {
  wide = λ a ts s. reads.wide a ts (back a ts s);
  sound = λ ts a rest e. let found = reads.sound ts a rest e in
      record {
        prefix = found.prefix;
        spelled = there a found.prefix found.spelled;
        split = found.split;
        stable = found.stable;
      };
  complete = λ a prefix rest s f. reads.complete a prefix rest (back a prefix s) f;
  fails = λ ts n e. let bad = reads.fails ts n e in
      record {
        before = bad.before;
        bad = bad.bad;
        split = bad.split;
        count = bad.count;
        opens = bad.opens;
        none = λ a prefix rest more s f same heads. bad.none a prefix rest more
            (back a prefix s) f same heads;
        begun = bad.begun;
      };
  fill = reads.fill;
}

-- Another reader with the same answers

pub same_reader : {A : Type 0} {R W : Relation A} {F : Follow A} (p q : Reader A)
    → ((ts : List Spelled) → p ts ≡ q ts) → Reads R W F p → Reads R W F q
same_reader {A} {R} {W} {F} p q same reads =
    let path : p ≡ q = λ i. λ ts. same ts i in
    subst (λ reader. Reads R W F reader) path reads

-- More may be asked of what follows.
pub narrow : {A : Type 0} {R W : Relation A} {F G : Follow A} {p : Reader A} → Reads R W F p
    → ((a : A) (token : Option Spelled) → G a token → F a token) → Reads R W G p
narrow reads weaker = record {
  wide = reads.wide;
  sound = reads.sound;
  complete = λ a prefix rest s g. reads.complete a prefix rest s (weaker a (head rest) g);
  fails = λ ts n e. let bad = reads.fails ts n e in
      record {
        before = bad.before;
        bad = bad.bad;
        split = bad.split;
        count = bad.count;
        opens = bad.opens;
        none = λ a prefix rest more s g same heads. bad.none a prefix rest more s
            (weaker a (head rest) g) same heads;
        begun = bad.begun;
      };
  fill = reads.fill;
}

widened : {A : Type 0} {W U : Relation A} {before : List Spelled} {from : ℕ}
    → ((a : A) (ts : List Spelled) → W a ts → U a ts) → Filled W before from → Filled U before from
widened {A} {W} {U} {before} {from} more one =
    record {
      value = one.value;
      filler = one.filler;
      spelled = more one.value (before ++ one.filler) one.spelled;
      fills = one.fills;
    }

-- The wide relation may spell more.
pub widen : {A : Type 0} {R W U : Relation A} {F : Follow A} {p : Reader A} → Reads R W F p
    → ((a : A) (ts : List Spelled) → W a ts → U a ts) → Reads R U F p
widen reads more = record {
  wide = λ a ts s. more a ts (reads.wide a ts s);
  sound = reads.sound;
  complete = reads.complete;
  fails = λ ts n e. let bad = reads.fails ts n e in
      record {
        before = bad.before;
        bad = bad.bad;
        split = bad.split;
        count = bad.count;
        opens = bad.opens;
        none = bad.none;
        begun = λ from. widened more (bad.begun from);
      };
  fill = λ from. widened more (reads.fill from);
}

-- Nothing is read

pub reads_pure : {A : Type 0} (value : A) → Reads (NoToken value) (NoToken value) Anything
    (pure value)
reads_pure value = record {
  wide = λ a ts s. s;
  sound = λ ts a rest e. let same = ok_parts e in
      record {
        prefix = [];
        spelled = (sym same.0, refl);
        split = same.1;
        stable = λ other heads. ap (λ x. Ok (x, other)) same.0;
      };
  complete = λ a prefix rest s f. (ap (λ us. Ok (value, us ++ rest)) s.1)
      ∙ ap (λ x. Ok (x, rest)) (sym s.0);
  fails = λ ts n e. absurd (cc);
  fill = λ from. record { value = value; filler = []; spelled = (refl, refl); fills = tt };
}

-- One token

module _ {A : Type 0} (t : Terminal A) (fill : (from : ℕ) → Filled (One t) [] from) where
  taken_ok : (token : Spelled) (ts rest : List Spelled) (a : A)
      → take_if (has t.set token) (t.value token) ts ≡ Ok (a, rest)
      → (has t.set token ≡ true) × (t.value token ≡ a) × (ts ≡ rest)
  taken_ok token ts rest a e = by_test (has t.set token) e
    where
      by_test : (b : Bool) → take_if b (t.value token) ts ≡ Ok (a, rest)
          → (b ≡ true) × (t.value token ≡ a) × (ts ≡ rest)
      by_test true e = let same = ok_parts e in (refl, same.0, same.1)
      by_test false e = absurd (cc)

  takes : (token : Spelled) (ts : List Spelled) → has t.set token ≡ true
      → next t (token ∷ ts) ≡ Ok (t.value token, ts)
  takes token ts h = ap (λ b. take_if b (t.value token) ts) h

  next_sound : (ts : List Spelled) (a : A) (rest : List Spelled) → next t ts ≡ Ok (a, rest)
      → Found (One t) (next t) ts a rest
  next_sound [] a rest e = absurd (cc)
  next_sound (token ∷ ts) a rest e = let is = taken_ok token ts rest a e in
      record {
        prefix = token ∷ [];
        spelled = record { token = token; member = is.0; value = sym is.1; alone = refl };
        split = ap (λ us. token ∷ us) is.2;
        stable = λ other heads. takes token other is.0 ∙ ap (λ x. Ok (x, other)) is.1;
      }

  pub none_begins : (token : Option Spelled) → starts t.set token ≡ false
      → (a : A) (prefix rest more : List Spelled) → One t a prefix
      → prefix ++ rest ≡ more → head more ≡ token → ⊥
  none_begins token out a prefix rest more s same heads =
      let first : prefix ++ rest ≡ s.token ∷ rest = ap (λ us. us ++ rest) s.alone in
      let chain : Some s.token ≡ token = ap head (sym first ∙ same) ∙ heads in
      let clash : true ≡ false = sym s.member ∙ (ap (starts t.set) chain ∙ out) in cc

  next_fails : (ts : List Spelled) (fault : Fault) → next t ts ≡ Err fault
      → Failed (One t) (One t) Anything ts fault
  next_fails [] fault e = refused_at_once (One t) (One t) Anything [] fault e
      (λ a prefix rest more s f same heads. none_begins None refl a prefix rest more s same heads)
      fill
  next_fails (token ∷ ts) fault e = by_test (has t.set token) refl e
    where
      by_test : (b : Bool) → has t.set token ≡ b → take_if b (t.value token) ts ≡ Err fault
          → Failed (One t) (One t) Anything (token ∷ ts) fault
      by_test true is e = absurd (cc)
      by_test false is e = refused_at_once (One t) (One t) Anything (token ∷ ts) fault e
          (λ a prefix rest more s f same heads. none_begins (Some token) is a prefix rest more s
          same heads) fill

  pub reads_next : Reads (One t) (One t) Anything (next t)
  reads_next = record {
    wide = λ a ts s. s;
    sound = next_sound;
    complete = λ a prefix rest s f.
        ap (λ us. next t (us ++ rest)) s.alone
        ∙ (takes s.token rest s.member ∙ ap (λ x. Ok (x, rest)) (sym s.value));
    fails = next_fails;
    fill = fill;
  }

-- One reader after another

module _ {A B : Type 0} (P V : Relation A) (Q W : A → Relation B) (U : Relation B) (F : Follow A)
    (G : Follow B)
    (p : Reader A) (f : A → Reader B)
    (reads_p : Reads P V F p) (reads_f : (a : A) → Reads (Q a) (W a) G (f a))
    (join : (a : A) (b : B) (us vs : List Spelled) → V a us → W a b vs → U b (us ++ vs))
    (fits : (a : A) (b : B) (right rest : List Spelled) → Q a b right → G b (head rest)
    → F a (head (right ++ rest))) where
  then_wide : (b : B) (ts : List Spelled) → FollowedBy P Q b ts → U b ts
  then_wide b ts s = subst (λ us. U b us) (sym s.whole)
      (join s.value b s.left s.right (reads_p.wide s.value s.left s.first)
      ((reads_f s.value).wide b s.right s.second))

  bind_sound : (ts : List Spelled) (b : B) (rest : List Spelled) → then_read p f ts ≡ Ok (b, rest)
      → Found (FollowedBy P Q) (then_read p f) ts b rest
  bind_sound ts b rest e =
      let one = bind_ok (p ts) (λ x. f x.0 x.1) (b, rest) e in
      let a = one.0.0 in
      let found = reads_p.sound ts a one.0.1 one.1 in
      let more = (reads_f a).sound one.0.1 b rest one.2 in
      record {
        prefix = found.prefix ++ more.prefix;
        spelled = record {
          value = a;
          left = found.prefix;
          right = more.prefix;
          first = found.spelled;
          second = more.spelled;
          whole = refl;
        };
        split = found.split ∙ (ap (λ us. found.prefix ++ us) more.split
            ∙ sym (append_assoc found.prefix more.prefix rest));
        stable = λ other heads.
            let step : p (found.prefix ++ (more.prefix ++ other)) ≡ Ok (a, more.prefix ++ other)
            = found.stable (more.prefix ++ other)
            (head_after more.prefix other rest heads ∙ ap head (sym more.split)) in
            ap (then_read p f) (append_assoc found.prefix more.prefix other)
            ∙ bind_step (p (found.prefix ++ (more.prefix ++ other))) (λ x. f x.0 x.1)
            (a, more.prefix ++ other) (Ok (b, other)) step (more.stable other heads);
      }

  bind_complete : (b : B) (prefix rest : List Spelled) → FollowedBy P Q b prefix → G b (head rest)
      → then_read p f (prefix ++ rest) ≡ Ok (b, rest)
  bind_complete b prefix rest s g =
      let regroup : prefix ++ rest ≡ s.left ++ (s.right ++ rest) = ap (λ us. us ++ rest) s.whole
      ∙ append_assoc s.left s.right rest in
      let step : p (s.left ++ (s.right ++ rest)) ≡ Ok (s.value, s.right ++ rest)
      = reads_p.complete s.value s.left (s.right ++ rest) s.first
      (fits s.value b s.right rest s.second g) in
      ap (then_read p f) regroup
      ∙ bind_step (p (s.left ++ (s.right ++ rest))) (λ x. f x.0 x.1) (s.value, s.right ++ rest)
      (Ok (b, rest)) step
      ((reads_f s.value).complete b s.right rest s.second g)

  filled_then : (before : List Spelled) (from : ℕ) → Filled V before from → Filled U before from
  filled_then before from one = let two = (reads_f one.value).fill (past from one.filler) in
      record {
        value = two.value;
        filler = one.filler ++ two.filler;
        spelled = subst (λ us. U two.value us) (append_assoc before one.filler two.filler)
            (join one.value two.value (before ++ one.filler) two.filler one.spelled two.spelled);
        fills = Fills-append from one.filler two.filler one.fills two.fills;
      }

  first_fails : (ts : List Spelled) (fault : Fault) → p ts ≡ Err fault
      → Failed (FollowedBy P Q) U G ts fault
  first_fails ts fault e = let bad = reads_p.fails ts fault e in record {
    before = bad.before;
    bad = bad.bad;
    split = bad.split;
    count = bad.count;
    opens = bad.opens;
    none = λ b prefix rest more s g same heads.
        let regroup : prefix ++ rest ≡ s.left ++ (s.right ++ rest) = ap (λ us. us ++ rest) s.whole
        ∙ append_assoc s.left s.right rest in
        bad.none s.value s.left (s.right ++ rest) more s.first
        (fits s.value b s.right rest s.second g) (sym regroup ∙ same) heads;
    begun = λ from. filled_then (bad.before ++ passed fault bad.bad) from (bad.begun from);
  }

  second_fails : (ts : List Spelled) (fault : Fault) (a : A) (mid : List Spelled)
      → p ts ≡ Ok (a, mid) → f a mid ≡ Err fault → Failed (FollowedBy P Q) U G ts fault
  second_fails ts fault a mid e e' = let found = reads_p.sound ts a mid e in let bad =
      (reads_f a).fails mid fault e' in record {
        before = found.prefix ++ bad.before;
        bad = bad.bad;
        split = found.split ∙ (ap (λ us. found.prefix ++ us) bad.split
            ∙ sym (append_assoc found.prefix bad.before bad.bad));
        count = bad.count;
        opens = bad.opens;
        none = λ b prefix rest more s g same heads.
            let regroup : prefix ++ rest ≡ s.left ++ (s.right ++ rest) =
            ap (λ us. us ++ rest) s.whole
            ∙ append_assoc s.left s.right rest in
            let text : s.left ++ (s.right ++ rest) ≡ found.prefix ++ (bad.before ++ more) =
            sym regroup
            ∙ (same ∙ append_assoc found.prefix bad.before more) in
            let one : p (s.left ++ (s.right ++ rest)) ≡ Ok (s.value, s.right ++ rest)
            = reads_p.complete s.value s.left (s.right ++ rest) s.first
            (fits s.value b s.right rest s.second g) in
            let two : p (found.prefix ++ (bad.before ++ more)) ≡ Ok (a, bad.before ++ more)
            = found.stable (bad.before ++ more)
            (head_after bad.before more bad.bad heads ∙ ap head (sym bad.split)) in
            let both = ok_parts (sym one ∙ (ap p text ∙ two)) in
            bad.none b s.right rest more (subst (λ x. Q x b s.right) both.0 s.second) g both.1
            heads;
        begun = λ from. let two = bad.begun from in
            record {
              value = two.value;
              filler = two.filler;
              spelled = subst (λ us. U two.value us)
                  (sym (append_assoc found.prefix (bad.before ++ passed fault bad.bad) two.filler)
                  ∙ ap (λ us. us ++ two.filler)
                  (sym (append_assoc found.prefix bad.before (passed fault bad.bad))))
                  (join a two.value found.prefix
                  ((bad.before ++ passed fault bad.bad) ++ two.filler)
                  (reads_p.wide a found.prefix found.spelled) two.spelled);
              fills = two.fills;
            };
      }

  bind_fails : (ts : List Spelled) (fault : Fault) → then_read p f ts ≡ Err fault
      → Failed (FollowedBy P Q) U G ts fault
  bind_fails ts fault e = elim (bind_err (p ts) (λ x. f x.0 x.1) fault e) [
    | inl one ↦ first_fails ts fault one
    | inr two ↦ second_fails ts fault two.0.0 two.0.1 two.1 two.2
  ]

-- What follows the second part is asked, and `fits` says what it makes of what follows the first.
pub reads_then : {A B : Type 0} {P V : Relation A} {Q W : A → Relation B}
    (U : Relation B) {F : Follow A} {G : Follow B} {p : Reader A} {f : A → Reader B}
    → Reads P V F p → ((a : A) → Reads (Q a) (W a) G (f a))
    → ((a : A) (b : B) (us vs : List Spelled) → V a us → W a b vs → U b (us ++ vs))
    → ((a : A) (b : B) (right rest : List Spelled) → Q a b right → G b (head rest)
    → F a (head (right ++ rest)))
    → Reads (FollowedBy P Q) U G (then_read p f)
reads_then {A} {B} {P} {V} {Q} {W} U {F} {G} {p} {f} reads_p reads_f join fits = record {
  wide = then_wide P V Q W U F G p f reads_p reads_f join fits;
  sound = bind_sound P V Q W U F G p f reads_p reads_f join fits;
  complete = bind_complete P V Q W U F G p f reads_p reads_f join fits;
  fails = bind_fails P V Q W U F G p f reads_p reads_f join fits;
  fill = λ from. filled_then P V Q W U F G p f reads_p reads_f join fits [] from
      (reads_p.fill from);
}

-- One of two readers, by the next token

-- each spelling shows by its first token, or by what follows it, whether the token is of the set
abbrev pub Shows : {A : Type 0} → Set → Bool → Relation A → Follow A → Type 0
Shows {A} set answer R F = (a : A) (prefix rest : List Spelled) → R a prefix → F a (head rest)
    → starts set (head (prefix ++ rest)) ≡ answer

module _ {A : Type 0} (P V Q W U : Relation A) (F : Follow A) (set : Set) (p q : Reader A)
    (reads_p : Reads P V F p) (reads_q : Reads Q W F q) (yes_p : Shows set true P F)
    (no_q : Shows set false Q F)
    (to_left : (a : A) (ts : List Spelled) → V a ts → U a ts)
    (to_right : (a : A) (ts : List Spelled) → W a ts → U a ts) where
  either_wide : (a : A) (ts : List Spelled) → Either P Q a ts → U a ts
  either_wide a ts (inl s) = to_left a ts (reads_p.wide a ts s)
  either_wide a ts (inr s) = to_right a ts (reads_q.wide a ts s)

  either_sound : (ts : List Spelled) (a : A) (rest : List Spelled)
      → choose set p q ts ≡ Ok (a, rest) → Found (Either P Q) (choose set p q) ts a rest
  either_sound ts a rest e =
      elim (cond_cases (starts set (head ts)) (p ts) (q ts) (Ok (a, rest)) e) [
        | inl is ↦ (let found = reads_p.sound ts a rest is.1 in record {
          prefix = found.prefix;
          spelled = inl found.spelled;
          split = found.split;
          stable = λ other heads.
              let first : head (found.prefix ++ other) ≡ head ts =
              head_after found.prefix other rest heads ∙ ap head (sym found.split) in
              ap (λ b. cond b (p (found.prefix ++ other)) (q (found.prefix ++ other)))
              (ap (starts set) first ∙ is.0) ∙ found.stable other heads;
        })
        | inr is ↦ (let found = reads_q.sound ts a rest is.1 in record {
          prefix = found.prefix;
          spelled = inr found.spelled;
          split = found.split;
          stable = λ other heads.
              let first : head (found.prefix ++ other) ≡ head ts =
              head_after found.prefix other rest heads ∙ ap head (sym found.split) in
              ap (λ b. cond b (p (found.prefix ++ other)) (q (found.prefix ++ other)))
              (ap (starts set) first ∙ is.0) ∙ found.stable other heads;
        })
      ]

  either_complete : (a : A) (prefix rest : List Spelled) → Either P Q a prefix → F a (head rest)
      → choose set p q (prefix ++ rest) ≡ Ok (a, rest)
  either_complete a prefix rest (inl s) f =
      ap (λ b. cond b (p (prefix ++ rest)) (q (prefix ++ rest))) (yes_p a prefix rest s f)
      ∙ reads_p.complete a prefix rest s f
  either_complete a prefix rest (inr s) f =
      ap (λ b. cond b (p (prefix ++ rest)) (q (prefix ++ rest))) (no_q a prefix rest s f)
      ∙ reads_q.complete a prefix rest s f

  -- a spelling that begins so has the same first token as these
  same_test : (prefix rest before more bad ts : List Spelled) → prefix ++ rest ≡ before ++ more
      → head more ≡ head bad → ts ≡ before ++ bad
      → starts set (head (prefix ++ rest)) ≡ starts set (head ts)
  same_test prefix rest before more bad ts same heads split =
      ap (λ us. starts set (head us)) same
      ∙ (ap (starts set) (head_after before more bad heads)
      ∙ ap (λ us. starts set (head us)) (sym split))

  either_fails : (ts : List Spelled) (fault : Fault) → choose set p q ts ≡ Err fault
      → Failed (Either P Q) U F ts fault
  either_fails ts fault e = elim (cond_cases (starts set (head ts)) (p ts) (q ts) (Err fault) e) [
    | inl is ↦ (let bad = reads_p.fails ts fault is.1 in record {
      before = bad.before;
      bad = bad.bad;
      split = bad.split;
      count = bad.count;
      opens = bad.opens;
      none = λ a prefix rest more s f same heads. elim s [
        | inl s' ↦ bad.none a prefix rest more s' f same heads
        | inr s' ↦ (let clash : false ≡ true = sym (no_q a prefix rest s' f)
            ∙ (same_test prefix rest bad.before more bad.bad ts same heads bad.split ∙ is.0) in cc)
      ];
      begun = λ from. widened to_left (bad.begun from);
    })
    | inr is ↦ (let bad = reads_q.fails ts fault is.1 in record {
      before = bad.before;
      bad = bad.bad;
      split = bad.split;
      count = bad.count;
      opens = bad.opens;
      none = λ a prefix rest more s f same heads. elim s [
        | inl s' ↦ (let clash : true ≡ false = sym (yes_p a prefix rest s' f)
            ∙ (same_test prefix rest bad.before more bad.bad ts same heads bad.split ∙ is.0) in cc)
        | inr s' ↦ bad.none a prefix rest more s' f same heads
      ];
      begun = λ from. widened to_right (bad.begun from);
    })
  ]

pub reads_choose : {A : Type 0} {P V Q W : Relation A}
    (U : Relation A) {F : Follow A} {p q : Reader A} (set : Set)
    → Reads P V F p → Reads Q W F q → Shows set true P F → Shows set false Q F
    → ((a : A) (ts : List Spelled) → V a ts → U a ts)
    → ((a : A) (ts : List Spelled) → W a ts → U a ts)
    → Reads (Either P Q) U F (choose set p q)
reads_choose {A} {P} {V} {Q} {W} U {F} {p} {q} set reads_p reads_q yes_p no_q to_left to_right =
    record {
      wide = either_wide P V Q W U F set p q reads_p reads_q yes_p no_q to_left to_right;
      sound = either_sound P V Q W U F set p q reads_p reads_q yes_p no_q to_left to_right;
      complete = either_complete P V Q W U F set p q reads_p reads_q yes_p no_q to_left to_right;
      fails = either_fails P V Q W U F set p q reads_p reads_q yes_p no_q to_left to_right;
      fill = λ from. widened to_left (reads_p.fill from);
    }

-- The first of two only where a condition holds

only_there : {A : Type 0} (P Q : Relation A) (a : A) (ts : List Spelled) → Either P Q a ts
    → Either (Only true P) Q a ts
only_there P Q a ts (inl s) = inl (refl, s)
only_there P Q a ts (inr s) = inr s

only_back : {A : Type 0} (P Q : Relation A) (a : A) (ts : List Spelled)
    → Either (Only true P) Q a ts → Either P Q a ts
only_back P Q a ts (inl s) = inl s.1
only_back P Q a ts (inr s) = inr s

never_there : {A : Type 0} (P Q : Relation A) (a : A) (ts : List Spelled) → Q a ts
    → Either (Only false P) Q a ts
never_there P Q a ts s = inr s

never_back : {A : Type 0} (P Q : Relation A) (a : A) (ts : List Spelled)
    → Either (Only false P) Q a ts → Q a ts
never_back P Q a ts (inl s) = absurd (let clash : false ≡ true = s.0 in cc)
never_back P Q a ts (inr s) = s

pub reads_only : {A : Type 0} {P Q U : Relation A} {F : Follow A} (is_so : Bool)
    (both other : Reader A)
    → (is_so ≡ true → Reads (Either P Q) U F both) → Reads Q U F other
    → Reads (Either (Only is_so P) Q) U F (only_if is_so both other)
reads_only {A} {P} {Q} {U} {F} true both other reads_both reads_other =
    restate (reads_both refl) (only_there P Q) (only_back P Q)
reads_only {A} {P} {Q} {U} {F} false both other reads_both reads_other =
    restate reads_other (never_there P Q) (never_back P Q)

-- Nothing is spelled

pub reads_never : {A : Type 0} (Q W : Relation A) (F : Follow A)
    → ((a : A) (ts : List Spelled) → Q a ts → ⊥)
    → ((from : ℕ) → Filled W [] from) → Reads Q W F refused
reads_never {A} Q W F never fill = record {
  wide = λ a ts s. absurd (never a ts s);
  sound = λ ts a rest e. absurd (let clash : ◌≡◌ {A = Answer A} (refused ts) (Ok (a, rest)) = e in
      cc);
  complete = λ a prefix rest s f. absurd (never a prefix s);
  fails = λ ts fault e. refused_at_once Q W F ts fault e
      (λ a prefix rest more s f same heads. absurd (never a prefix s)) fill;
  fill = fill;
}

-- A reader whose first token has to pass a test

-- no spelling is empty
abbrev pub HasFirst : {A : Type 0} → Relation A → Type 0
HasFirst {A} R = (a : A) (prefix rest : List Spelled) → R a prefix
    → head (prefix ++ rest) ≡ head prefix

module _ {A : Type 0} (R W U : Relation A) (F : Follow A) (test : Option Spelled → Bool)
    (p : Reader A)
    (reads : Reads R W F p) (has_first : HasFirst R)
    (pass_wide : (a : A) (ts : List Spelled) → W a ts → test (head ts) ≡ true → U a ts)
    (fill : (from : ℕ) → Filled U [] from) where
  pass : (ts : List Spelled) → test (head ts) ≡ true → checked test p ts ≡ p ts
  pass ts is = ap (λ b. and_then (cond b (Ok (tt {0}, ts)) (refused ts)) (λ x. p x.1)) is

  passed_or_refused : (ts : List Spelled) (r : Answer A) → checked test p ts ≡ r
      → ((test (head ts) ≡ true) × (p ts ≡ r)) ⊎ ((test (head ts) ≡ false) × (refused ts ≡ r))
  passed_or_refused ts r e = by_test (test (head ts)) e
    where
      by_test : (b : Bool) → and_then (cond b (Ok (tt {0}, ts)) (refused ts)) (λ x. p x.1) ≡ r
          → ((b ≡ true) × (p ts ≡ r)) ⊎ ((b ≡ false) × (refused ts ≡ r))
      by_test true e = inl (refl, e)
      by_test false e = inr (refl, e)

  checked_sound : (ts : List Spelled) (a : A) (rest : List Spelled)
      → checked test p ts ≡ Ok (a, rest) → Found (Passing test R) (checked test p) ts a rest
  checked_sound ts a rest e = elim (passed_or_refused ts (Ok (a, rest)) e) [
    | inl is ↦ (let found = reads.sound ts a rest is.1 in
        let first : test (head found.prefix) ≡ true =
        ap test (sym (has_first a found.prefix rest found.spelled) ∙ ap head (sym found.split))
        ∙ is.0 in
        record {
          prefix = found.prefix;
          spelled = (found.spelled, first);
          split = found.split;
          stable = λ other heads. pass (found.prefix ++ other)
              (ap test (has_first a found.prefix other found.spelled) ∙ first)
              ∙ found.stable other heads;
        })
    | inr is ↦ absurd (let clash : ◌≡◌ {A = Answer A} (refused ts) (Ok (a, rest)) = is.1 in cc)
  ]

  begun_passing : (before bad more ts : List Spelled) (fault : Fault) (from : ℕ)
      → ts ≡ before ++ bad → test (head ts) ≡ true
      → Filled W (before ++ passed fault bad) from → Filled U (before ++ passed fault bad) from
  begun_passing [] [] more ts (unexpected left) from split is one = fill from
  begun_passing [] [] more ts (too_deep left) from split is one = fill from
  begun_passing [] (b ∷ bad) more ts (unexpected left) from split is one = fill from
  begun_passing [] (b ∷ bad) more ts (too_deep left) from split is one = record {
    value = one.value;
    filler = one.filler;
    spelled = pass_wide one.value (b ∷ one.filler) one.spelled
        (ap (λ vs. test (head vs)) (sym split) ∙ is);
    fills = one.fills;
  }
  begun_passing (t ∷ us) bad more ts fault from split is one = record {
    value = one.value;
    filler = one.filler;
    spelled = pass_wide one.value (((t ∷ us) ++ passed fault bad) ++ one.filler) one.spelled
        (ap (λ vs. test (head vs)) (sym split) ∙ is);
    fills = one.fills;
  }

  checked_fails : (ts : List Spelled) (fault : Fault) → checked test p ts ≡ Err fault
      → Failed (Passing test R) U F ts fault
  checked_fails ts fault e = elim (passed_or_refused ts (Err fault) e) [
    | inl is ↦ (let bad = reads.fails ts fault is.1 in record {
      before = bad.before;
      bad = bad.bad;
      split = bad.split;
      count = bad.count;
      opens = bad.opens;
      none = λ a prefix rest more s f same heads. bad.none a prefix rest more s.0 f same heads;
      begun = λ from. begun_passing bad.before bad.bad [] ts fault from bad.split is.0
          (bad.begun from);
    })
    | inr is ↦ refused_at_once (Passing test R) U F ts fault is.1
        (λ a prefix rest more s f same heads.
        let clash : true ≡ false = sym s.1
        ∙ (ap test (sym (has_first a prefix rest s.0) ∙ (ap head same ∙ heads)) ∙ is.0) in cc)
        fill
  ]

  checked_complete : (a : A) (prefix rest : List Spelled) → Passing test R a prefix
      → F a (head rest)
      → checked test p (prefix ++ rest) ≡ Ok (a, rest)
  checked_complete a prefix rest s f =
      pass (prefix ++ rest) (ap test (has_first a prefix rest s.0) ∙ s.1)
      ∙ reads.complete a prefix rest s.0 f

pub reads_checked : {A : Type 0} {R W : Relation A} (U : Relation A) {F : Follow A} {p : Reader A}
    (test : Option Spelled → Bool)
    → Reads R W F p → HasFirst R
    → ((a : A) (ts : List Spelled) → W a ts → test (head ts) ≡ true → U a ts)
    → ((from : ℕ) → Filled U [] from) → Reads (Passing test R) U F (checked test p)
reads_checked {A} {R} {W} U {F} {p} test reads has_first pass_wide fill = record {
  wide = λ a ts s. pass_wide a ts (reads.wide a ts s.0) s.1;
  sound = checked_sound R W U F test p reads has_first pass_wide fill;
  complete = checked_complete R W U F test p reads has_first pass_wide fill;
  fails = checked_fails R W U F test p reads has_first pass_wide fill;
  fill = fill;
}
