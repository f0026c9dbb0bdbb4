-- Loops of readers, and the record `Reads` for them.
use Rattle.std.proofs.Common.{◌≡◌, ℕ, zero, suc, ◌+◌, ◌≤◌, ◌<◌, Bool, true, false, cond, inl, inr}
use Rattle.std.proofs.Common.{List, [], ◌∷◌, ◌++◌, length, refl, sym, ◌∙◌, ap, subst, append_assoc}
use Rattle.std.proofs.Common.{arith, length-append}
use Rattle.std.specs.Prelude.{Option, Some, None, Ok, Err}
use Rattle.sw_token.specs.Spelling.{Spelled}
use Rattle.sw_grammar_forms.specs.Sets.{Set, has, starts}
use Rattle.sw_grammar_forms.specs.Relations.{Relation, head, NoToken, FollowedBy, Either, Only, Turns}
use Rattle.sw_grammar_forms.specs.Relations.Turns.{stop, turn}
use Rattle.sw_grammar_forms.specs.Reader.{Fault, Answer, Reader, refused, pure, and_then, then_read}
use Rattle.sw_grammar_forms.specs.Reader.{choose, set_if, repeat, loop}
use Rattle.sw_grammar_forms.proofs.ReaderLaws.{Follow, Failed, Reads, ok_parts, bind_ok, bind_step}
use Rattle.sw_grammar_forms.proofs.ReaderLaws.{cond_cases, refused_at_once, restate, same_reader, narrow}
use Rattle.sw_grammar_forms.proofs.ReaderLaws.{widen, reads_pure, reads_then, reads_choose, Shows}

-- at most `n` turns, from one state to another
data AtMost {S : Type 0} (One : S → Relation S) : ℕ → S → S → List Spelled → Type 0 where
  none : (n : ℕ) (s : S) → AtMost One n s s []
  more : (n : ℕ) (s next t : S) (us vs : List Spelled) → One s next us → AtMost One n next t vs
      → AtMost One (suc n) s t (us ++ vs)

-- what makes a loop of a reader: its turns take tokens, begin with the tokens that the loop goes on
-- with, and may follow each other and be followed by what follows the loop
pub record IsTurn {S : Type 0} (is_open : S → Bool) (One : S → Relation S) (F G : Follow S)
    (set : Set) : Type 0 where
  pub takes : (s t : S) (ts : List Spelled) → One s t ts → 0 < length ts
  pub goes_on : (s t : S) (ts rest : List Spelled) → One s t ts
      → starts set (head (ts ++ rest)) ≡ true
  pub ends : (s : S) (token : Option Spelled) → is_open s ≡ true → G s token
      → starts set token ≡ false
  pub stopped : (s : S) (token : Option Spelled) → G s token → F s token
  pub followed : (s t : S) (ts rest : List Spelled) → One s t ts → F s (head (ts ++ rest))

-- two ends of one length of one list
pub same_ends : (us vs xs ys : List Spelled) → us ++ vs ≡ xs ++ ys → length vs ≡ length ys
    → (us ≡ xs) × (vs ≡ ys)
same_ends [] vs [] ys same equal = (refl, same)
same_ends [] vs (x ∷ xs) ys same equal =
    absurd (omega (arith, equal, ap length same, length-append xs ys))
same_ends (u ∷ us) vs [] ys same equal =
    absurd (omega (arith, equal, ap length same, length-append us vs))
same_ends (u ∷ us) vs (x ∷ xs) ys same equal =
    let tails : us ++ vs ≡ xs ++ ys = cc in
    let heads : u ≡ x = cc in
    let both = same_ends us vs xs ys tails equal in
    (ap (λ z. z ∷ us) heads ∙ ap (λ zs. x ∷ zs) both.0, both.1)

pub no_token : (token : Option Spelled) → starts [] token ≡ false
unfolding has
no_token None = refl
no_token (Some token) = refl

never_starts : (b : Bool) (set : Set) (token : Option Spelled)
    → (b ≡ true → starts set token ≡ false) → starts (set_if b set) token ≡ false
never_starts true set token h = h refl
never_starts false set token h = no_token token

-- a turn from an open state
abbrev pub Open : {S : Type 0} → (S → Bool) → (S → Relation S) → S → Relation S
Open is_open P s = Only (is_open s) (P s)

module _ {S : Type 0} (P V : S → Relation S) (F G : Follow S) (set : Set) (is_open : S → Bool)
    (turn_of : S → Reader S)
    (reads : (s : S) → Reads (P s) (V s) F (turn_of s)) (is : IsTurn is_open P F G set) where
  abbrev One : S → Relation S
  One = Open is_open P

  abbrev W : S → Relation S
  W = Open is_open V

  abbrev set_of : S → Set
  set_of s = set_if (is_open s) set

  ends : (s : S) (token : Option Spelled) → G s token → starts (set_of s) token ≡ false
  ends s token g = never_starts (is_open s) set token (λ open_now. is.ends s token open_now g)

  reads_one : (s : S) → is_open s ≡ true → Reads (One s) (W s) F (turn_of s)
  reads_one s open_now = restate (widen (reads s) (λ t ts h. (open_now, h)))
      (λ t ts h. (open_now, h)) (λ t ts h. h.1)

  -- no turn at all
  none_there : (s t : S) (ts : List Spelled) → NoToken s t ts → AtMost One 0 s t ts
  none_there s t ts h = subst (λ x. AtMost One 0 s x ts) (sym h.0)
      (subst (λ us. AtMost One 0 s s us) (sym h.1) (none 0 s))

  none_back : (s t : S) (ts : List Spelled) → AtMost One 0 s t ts → NoToken s t ts
  none_back s t ts (none _ _) = (refl, refl)

  nothing_turns : (s t : S) (ts : List Spelled) → NoToken s t ts → Turns W s t ts
  nothing_turns s t ts h = subst (λ x. Turns W s x ts) (sym h.0)
      (subst (λ us. Turns W s s us) (sym h.1) (stop s))

  no_turns_fail : (s : S) (ts : List Spelled) (fault : Fault)
      → repeat set is_open turn_of 0 s ts ≡ Err fault → Failed (NoToken s) (NoToken s) G ts fault
  no_turns_fail s ts fault e =
      elim (cond_cases (starts (set_of s) (head ts)) (refused ts) (Ok (s, ts)) (Err fault) e) [
        | inl h ↦ refused_at_once (NoToken s) (NoToken s) G ts fault h.1
            (λ t prefix rest more s' g same heads.
            let text : rest ≡ more = ap (λ us. us ++ rest) (sym s'.1) ∙ same in
            let clash : false ≡ true =
            sym (ends s (head rest) (subst (λ x. G x (head rest)) s'.0 g))
            ∙ (ap (λ us. starts (set_of s) (head us)) text ∙ (ap (starts (set_of s)) heads ∙ h.0))
            in cc)
            (λ from. record { value = s; filler = []; spelled = (refl, refl); fills = tt })
        | inr h ↦ absurd (let clash : ◌≡◌ {A = Answer S} (Ok (s, ts)) (Err fault) = h.1 in cc)
      ]

  reads_no_turn : (s : S) → Reads (NoToken s) (NoToken s) G (repeat set is_open turn_of 0 s)
  reads_no_turn s = record {
    wide = λ t ts h. h;
    sound = λ ts t rest e. elim (cond_cases (starts (set_of s) (head ts)) (refused ts) (Ok (s, ts))
        (Ok (t, rest)) e) [
          | inl h ↦ absurd (let clash : ◌≡◌ {A = Answer S} (refused ts) (Ok (t, rest)) = h.1 in cc)
          | inr h ↦ (let same = ok_parts h.1 in record {
            prefix = [];
            spelled = (sym same.0, refl);
            split = same.1;
            stable = λ other heads.
                ap (λ b. cond b (refused other) (Ok (s, other)))
                (ap (starts (set_of s)) (heads ∙ ap head (sym same.1)) ∙ h.0)
                ∙ ap (λ x. Ok (x, other)) same.0;
          })
        ];
    complete = λ t prefix rest h g.
        ap (λ us. repeat set is_open turn_of 0 s (us ++ rest)) h.1
        ∙ (ap (λ b. cond b (refused rest) (Ok (s, rest)))
        (ends s (head rest) (subst (λ x. G x (head rest)) h.0 g))
        ∙ ap (λ x. Ok (x, rest)) (sym h.0));
    fails = no_turns_fail s;
    fill = λ from. record { value = s; filler = []; spelled = (refl, refl); fills = tt };
  }

  more_there : (n : ℕ) (s t : S) (ts : List Spelled)
      → Either (FollowedBy (One s) (AtMost One n)) (NoToken s) t ts → AtMost One (suc n) s t ts
  more_there n s t ts (inr h) = subst (λ x. AtMost One (suc n) s x ts) (sym h.0)
      (subst (λ us. AtMost One (suc n) s s us) (sym h.1) (none (suc n) s))
  more_there n s t ts (inl h) = subst (λ us. AtMost One (suc n) s t us) (sym h.whole)
      (more n s h.value t h.left h.right h.first h.second)

  more_back : (n : ℕ) (s t : S) (ts : List Spelled) → AtMost One (suc n) s t ts
      → Either (FollowedBy (One s) (AtMost One n)) (NoToken s) t ts
  more_back n s t ts (none _ _) = inr (refl, refl)
  more_back n s t ts (more _ _ next _ us vs one others) =
      inl (record {
        value = next;
        left = us;
        right = vs;
        first = one;
        second = others;
        whole = refl;
      })

  closed_nothing : (n : ℕ) (s : S) → is_open s ≡ false → (t : S) (ts : List Spelled)
      → AtMost One (suc n) s t ts → NoToken s t ts
  closed_nothing n s closed t ts (none _ _) = (refl, refl)
  closed_nothing n s closed t ts (more _ _ next _ us vs one others) =
      absurd (let clash : true ≡ false = sym one.0 ∙ closed in cc)

  then_turns : (n : ℕ) (a b : S) (right rest : List Spelled) → AtMost One n a b right
      → G b (head rest) → F a (head (right ++ rest))
  then_turns n a b right rest (none _ _) g = is.stopped a (head rest) g
  then_turns n a b right rest (more _ _ next _ us vs one others) g =
      subst (λ ts. F a (head ts)) (sym (append_assoc us vs rest))
      (is.followed a next us (vs ++ rest) one.1)

  begins : (n : ℕ) (s : S) → Shows (set_of s) true (FollowedBy (One s) (AtMost One n)) G
  begins n s t prefix rest h g =
      ap (λ us. starts (set_of s) (head (us ++ rest))) h.whole
      ∙ (ap (λ us. starts (set_of s) (head us)) (append_assoc h.left h.right rest)
      ∙ (ap (λ b. starts (set_if b set) (head (h.left ++ (h.right ++ rest)))) h.first.0
      ∙ is.goes_on s h.value h.left (h.right ++ rest) h.first.1))

  reads_repeat : (n : ℕ) (s : S)
      → Reads (AtMost One n s) (Turns W s) G (repeat set is_open turn_of n s)
  reads_repeat zero s = restate (widen (reads_no_turn s) (nothing_turns s)) (none_there s)
      (none_back s)
  reads_repeat (suc n) s = by_state (is_open s) refl (reads_repeat n)
    where
      by_state : (b : Bool) → is_open s ≡ b
          → ((t : S) → Reads (AtMost One n t) (Turns W t) G (repeat set is_open turn_of n t))
          → Reads (AtMost One (suc n) s) (Turns W s) G (repeat set is_open turn_of (suc n) s)
      by_state true open_now others = restate
          (reads_choose (Turns W s) (set_of s)
          (reads_then (Turns W s) (reads_one s open_now) others
          (λ a b us vs one others. turn s a b us vs one others) (then_turns n))
          (narrow (reads_pure s) (λ t token g. tt))
          (begins n s) (λ t prefix rest h g. ap (λ us. starts (set_of s) (head (us ++ rest))) h.1
          ∙ ends s (head rest) (subst (λ x. G x (head rest)) h.0 g))
          (λ t ts h. h) (nothing_turns s))
          (more_there n s) (more_back n s)
      by_state false closed others =
          same_reader (pure s) (repeat set is_open turn_of (suc n) s) (λ ts. sym (stopped_now ts))
          (restate (narrow (widen (reads_pure s) (nothing_turns s)) (λ t token g. tt)) closed_there
          closed_back)
        where
          stopped_now : (ts : List Spelled) → repeat set is_open turn_of (suc n) s ts ≡ Ok (s, ts)
          stopped_now ts =
              ap (λ b. choose (set_if b set) (then_read (turn_of s) (repeat set is_open turn_of n))
              (pure s) ts) closed
              ∙ ap (λ b. cond b (then_read (turn_of s) (repeat set is_open turn_of n) ts)
              (Ok (s, ts))) (no_token (head ts))

          closed_there : (t : S) (ts : List Spelled) → NoToken s t ts → AtMost One (suc n) s t ts
          closed_there t ts h = subst (λ x. AtMost One (suc n) s x ts) (sym h.0)
              (subst (λ us. AtMost One (suc n) s s us) (sym h.1) (none (suc n) s))

          closed_back : (t : S) (ts : List Spelled) → AtMost One (suc n) s t ts → NoToken s t ts
          closed_back t ts h = closed_nothing n s closed t ts h

  -- On the number of turns: more than are taken change nothing.

  shrinks : (s t : S) (ts rest : List Spelled) → turn_of s ts ≡ Ok (t, rest)
      → length rest < length ts
  shrinks s t ts rest e = let found = (reads s).sound ts t rest e in
      let some = is.takes s t found.prefix found.spelled in
      omega (arith, ap length found.split, length-append found.prefix rest)

  stopped : (n : ℕ) (s : S) (ts : List Spelled) → starts (set_of s) (head ts) ≡ false
      → repeat set is_open turn_of n s ts ≡ Ok (s, ts)
  stopped zero s ts h = ap (λ b. cond b (refused ts) (Ok (s, ts))) h
  stopped (suc n) s ts h = ap
      (λ b. cond b (then_read (turn_of s) (repeat set is_open turn_of n) ts) (Ok (s, ts))) h

  goes_on : (n : ℕ) (s : S) (ts : List Spelled) → starts (set_of s) (head ts) ≡ true
      → repeat set is_open turn_of (suc n) s ts ≡ then_read (turn_of s)
      (repeat set is_open turn_of n) ts
  goes_on n s ts h = ap (λ b. cond b (then_read (turn_of s) (repeat set is_open turn_of n) ts)
      (Ok (s, ts)))
      h

  abbrev SameTurns : ℕ → ℕ → Type 0
  SameTurns n m = (t : S) (us : List Spelled) → length us ≤ n → length us ≤ m
      → repeat set is_open turn_of n t us ≡ repeat set is_open turn_of m t us

  same_after : (n m : ℕ) → SameTurns n m → (s : S) (ts : List Spelled) → length ts ≤ suc n
      → length ts ≤ suc m → (r : Answer S) → turn_of s ts ≡ r
      → and_then r (λ x. repeat set is_open turn_of n x.0 x.1) ≡ and_then r
      (λ x. repeat set is_open turn_of m x.0 x.1)
  same_after n m same s ts fuel fuel' (Ok x) e = let less : length x.1 < length ts =
      shrinks s x.0 ts x.1 e in same x.0 x.1 (omega arith) (omega arith)
  same_after n m same s ts fuel fuel' (Err k) e = refl

  same_turn : (n m : ℕ) → SameTurns n m → (s : S) (ts : List Spelled) → length ts ≤ suc n
      → length ts ≤ suc m → (b : Bool) → starts (set_of s) (head ts) ≡ b
      → repeat set is_open turn_of (suc n) s ts ≡ repeat set is_open turn_of (suc m) s ts
  same_turn n m same s ts fuel fuel' false h = stopped (suc n) s ts h ∙ sym (stopped (suc m) s ts h)
  same_turn n m same s ts fuel fuel' true h =
      goes_on n s ts h ∙ (same_after n m same s ts fuel fuel' (turn_of s ts) refl
      ∙ sym (goes_on m s ts h))

  -- Of turns that are enough, their number changes nothing.
  enough : (n m : ℕ) (s : S) (ts : List Spelled) → length ts ≤ n → length ts ≤ m
      → repeat set is_open turn_of n s ts ≡ repeat set is_open turn_of m s ts
  enough zero m s [] fuel fuel' = stopped zero s [] refl ∙ sym (stopped m s [] refl)
  enough zero m s (t ∷ ts) fuel fuel' = absurd (omega arith)
  enough (suc n) zero s [] fuel fuel' = stopped (suc n) s [] refl ∙ sym (stopped zero s [] refl)
  enough (suc n) zero s (t ∷ ts) fuel fuel' = absurd (omega arith)
  enough (suc n) (suc m) s ts fuel fuel' = same_turn n m (enough n m) s ts fuel fuel'
      (starts (set_of s) (head ts)) refl

  -- The loop

  AtMost-more : (n k : ℕ) (s t : S) (ts : List Spelled) → AtMost One n s t ts
      → AtMost One (k + n) s t ts
  AtMost-more n k s t ts (none _ _) = none (k + n) s
  AtMost-more n k s t ts (more m _ next _ us vs one others) =
      let added : suc (k + m) ≡ k + suc m = omega arith in
      subst (λ j. AtMost One j s t (us ++ vs)) added
      (more (k + m) s next t us vs one (AtMost-more m k next t vs others))

  counted : (s t : S) (ts : List Spelled) → Turns One s t ts → (n : ℕ) × AtMost One n s t ts
  counted s t ts (stop _) = (0, none 0 s)
  counted s t ts (turn _ next _ us vs one others) = let rest = counted next t vs others in
      (suc rest.0, more rest.0 s next t us vs one rest.1)

  uncounted : (n : ℕ) (s t : S) (ts : List Spelled) → AtMost One n s t ts → Turns One s t ts
  uncounted n s t ts (none _ _) = stop s
  uncounted n s t ts (more m _ next _ us vs one others) =
      turn s next t us vs one (uncounted m next t vs others)

  Turns-wide : (s t : S) (ts : List Spelled) → Turns One s t ts → Turns W s t ts
  Turns-wide s t ts (stop _) = stop s
  Turns-wide s t ts (turn _ next _ us vs one others) =
      turn s next t us vs (one.0, (reads s).wide next us one.1) (Turns-wide next t vs others)

  loop_is : (n : ℕ) (s : S) (ts : List Spelled) → length ts ≤ n
      → repeat set is_open turn_of n s ts ≡ loop set is_open turn_of s ts
  loop_is n s ts fuel = enough n (length ts) s ts fuel (omega arith)

  loop_fails : (s : S) (ts : List Spelled) (fault : Fault)
      → loop set is_open turn_of s ts ≡ Err fault
      → Failed (Turns One s) (Turns W s) G ts fault
  loop_fails s ts fault e =
      let bad = (reads_repeat (length ts) s).fails ts fault e in
      record {
        before = bad.before;
        bad = bad.bad;
        split = bad.split;
        count = bad.count;
        opens = bad.opens;
        none = λ t prefix rest more h g same heads.
            let turns = counted s t prefix h in
            let fuel : ℕ = length ts + turns.0 in
            let again : repeat set is_open turn_of fuel s ts ≡ Err fault =
            loop_is fuel s ts (omega arith)
            ∙ e in
            let worse = (reads_repeat fuel s).fails ts fault again in
            let ends = same_ends bad.before bad.bad worse.before worse.bad
            (sym bad.split ∙ worse.split) (bad.count ∙ sym worse.count) in
            worse.none t prefix rest more (AtMost-more turns.0 (length ts) s t prefix turns.1) g
            (same ∙ ap (λ us. us ++ more) ends.0) (heads ∙ ap head ends.1);
        begun = bad.begun;
      }

  loop_complete : (s t : S) (prefix rest : List Spelled) → Turns One s t prefix → G t (head rest)
      → loop set is_open turn_of s (prefix ++ rest) ≡ Ok (t, rest)
  loop_complete s t prefix rest h g =
      let turns = counted s t prefix h in
      let fuel : ℕ = length (prefix ++ rest) + turns.0 in
      sym (loop_is fuel s (prefix ++ rest) (omega arith))
      ∙ (reads_repeat fuel s).complete t prefix rest
      (AtMost-more turns.0 (length (prefix ++ rest)) s t prefix turns.1) g

  -- What `n` turns read, as many turns as tokens read too.
  refuel : (n m : ℕ) (s t : S) (ts rest : List Spelled)
      → repeat set is_open turn_of n s ts ≡ Ok (t, rest)
      → length ts ≤ m → repeat set is_open turn_of m s ts ≡ Ok (t, rest)
  refuel zero m s t ts rest e fuel =
      elim (cond_cases (starts (set_of s) (head ts)) (refused ts) (Ok (s, ts)) (Ok (t, rest)) e) [
        | inl h ↦ absurd (let clash : ◌≡◌ {A = Answer S} (refused ts) (Ok (t, rest)) = h.1 in cc)
        | inr h ↦ stopped m s ts h.0 ∙ h.1
      ]
  refuel (suc n) zero s t ts rest e fuel =
      elim (cond_cases (starts (set_of s) (head ts))
      (then_read (turn_of s) (repeat set is_open turn_of n) ts)
      (Ok (s, ts)) (Ok (t, rest)) e) [
        | inl h ↦ (let one = bind_ok (turn_of s ts) (λ x. repeat set is_open turn_of n x.0 x.1)
            (t, rest) h.1 in
            let less : length one.0.1 < length ts = shrinks s one.0.0 ts one.0.1 one.1 in
            absurd (omega arith))
        | inr h ↦ stopped zero s ts h.0 ∙ h.1
      ]
  refuel (suc n) (suc m) s t ts rest e fuel =
      elim (cond_cases (starts (set_of s) (head ts))
      (then_read (turn_of s) (repeat set is_open turn_of n) ts)
      (Ok (s, ts)) (Ok (t, rest)) e) [
        | inl h ↦ (let one = bind_ok (turn_of s ts) (λ x. repeat set is_open turn_of n x.0 x.1)
            (t, rest) h.1 in
            let less : length one.0.1 < length ts = shrinks s one.0.0 ts one.0.1 one.1 in
            goes_on m s ts h.0 ∙ bind_step (turn_of s ts)
            (λ x. repeat set is_open turn_of m x.0 x.1) one.0
            (Ok (t, rest)) one.1
            (refuel n m one.0.0 t one.0.1 rest one.2 (omega arith)))
        | inr h ↦ stopped (suc m) s ts h.0 ∙ h.1
      ]

  reads_turns : (s : S) → Reads (Turns One s) (Turns W s) G (loop set is_open turn_of s)
  reads_turns s = record {
    wide = Turns-wide s;
    sound = λ ts t rest e. let found = (reads_repeat (length ts) s).sound ts t rest e in
        record {
          prefix = found.prefix;
          spelled = uncounted (length ts) s t found.prefix found.spelled;
          split = found.split;
          stable = λ other heads. refuel (length ts) (length (found.prefix ++ other)) s t
              (found.prefix ++ other) other (found.stable other heads) (omega arith);
        };
    complete = loop_complete s;
    fails = loop_fails s;
    fill = λ from. record { value = s; filler = []; spelled = stop s; fills = tt };
  }

  -- One turn of a loop

  loop_stops : (s : S) (ts : List Spelled) → starts (set_of s) (head ts) ≡ false
      → loop set is_open turn_of s ts ≡ Ok (s, ts)
  loop_stops s ts h = stopped (length ts) s ts h

  loop_goes_on : (s : S) (ts : List Spelled) → starts (set_of s) (head ts) ≡ true
      → loop set is_open turn_of s ts ≡ then_read (turn_of s) (loop set is_open turn_of) ts
  loop_goes_on s ts h = sym (loop_is (suc (length ts)) s ts (omega arith))
      ∙ (goes_on (length ts) s ts h ∙ by_result (turn_of s ts) refl)
    where
      by_result : (r : Answer S) → turn_of s ts ≡ r
          → and_then r (λ x. repeat set is_open turn_of (length ts) x.0 x.1) ≡ and_then r
          (λ x. loop set is_open turn_of x.0 x.1)
      by_result (Ok x) e = let less : length x.1 < length ts = shrinks s x.0 ts x.1 e in
          loop_is (length ts) x.0 x.1 (omega arith)
      by_result (Err k) e = refl

pub reads_loop : {S : Type 0} {P V : S → Relation S} {F G : Follow S} {turn_of : S → Reader S}
    (set : Set) (is_open : S → Bool)
    → ((s : S) → Reads (P s) (V s) F (turn_of s)) → IsTurn is_open P F G set → (s : S)
    → Reads (Turns (Open is_open P) s) (Turns (Open is_open V) s) G (loop set is_open turn_of s)
reads_loop {S} {P} {V} {F} {G} {turn_of} set is_open reads is s =
    reads_turns P V F G set is_open turn_of reads is s

-- What the code's loop needs: its answer is that of what is left, turn by turn.

pub loop_ends : {S : Type 0} {P V : S → Relation S} {F G : Follow S} {turn_of : S → Reader S}
    (set : Set) (is_open : S → Bool)
    → ((s : S) → Reads (P s) (V s) F (turn_of s)) → IsTurn is_open P F G set
    → (s : S) (ts : List Spelled)
    → starts (set_if (is_open s) set) (head ts) ≡ false → loop set is_open turn_of s ts ≡ Ok (s, ts)
loop_ends {S} {P} {V} {F} {G} {turn_of} set is_open reads is s ts h =
    loop_stops P V F G set is_open turn_of reads is s ts h

pub loop_turns : {S : Type 0} {P V : S → Relation S} {F G : Follow S} {turn_of : S → Reader S}
    (set : Set) (is_open : S → Bool)
    → ((s : S) → Reads (P s) (V s) F (turn_of s)) → IsTurn is_open P F G set
    → (s : S) (ts : List Spelled)
    → starts (set_if (is_open s) set) (head ts) ≡ true
    → loop set is_open turn_of s ts ≡ then_read (turn_of s) (loop set is_open turn_of) ts
loop_turns {S} {P} {V} {F} {G} {turn_of} set is_open reads is s ts h =
    loop_goes_on P V F G set is_open turn_of reads is s ts h

-- A turn takes a token.
pub turn_shrinks : {S : Type 0} {P V : S → Relation S} {F G : Follow S} {turn_of : S → Reader S}
    (set : Set) (is_open : S → Bool)
    → ((s : S) → Reads (P s) (V s) F (turn_of s)) → IsTurn is_open P F G set
    → (s t : S) (ts rest : List Spelled)
    → turn_of s ts ≡ Ok (t, rest) → length rest < length ts
turn_shrinks {S} {P} {V} {F} {G} {turn_of} set is_open reads is s t ts rest e =
    shrinks P V F G set is_open turn_of reads is s t ts rest e
