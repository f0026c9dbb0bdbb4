-- What a relation's value weighs, against the tokens that it is spelled by. A weight says of each
-- offset how often it stands somewhere, so a value owns what it holds where it weighs no more than
-- its tokens and what earlier tokens have left over. The tokens stand as those of a text do; so it
-- is also known which part of a value is paid by earlier tokens than another.
use Rattle.std.proofs.Common.{◌≡◌, ℕ, zero, suc, ◌+◌, ◌≤◌, ◌<◌, Bool, true, false, IsTrue, Option, List}
use Rattle.std.proofs.Common.{[], ◌∷◌, ◌++◌, length, ⊎_elim, append_assoc, refl}
use Rattle.std.proofs.Common.{◌∙◌, sym, ap, subst, arith}
use Rattle.std.specs.List.{AllByRecursion}
use Rattle.sw_token.proofs.Steps.{some_token}
use Rattle.sw_token.specs.Spelling.{Spelled, StandApart}
use Rattle.sw_tree.proofs.Counting.{Weight, in_all, in_all-nil, in_all-cons, in_all-append}
use Rattle.sw_grammar_forms.proofs.Rising.{HasTokenText, StandApart-append, StandApart-prefix}
use Rattle.sw_grammar_forms.proofs.Rising.{StandApart-rest, end_of, end_of-append, texts_append}
use Rattle.sw_grammar_forms.proofs.Rising.{texts_prefix, texts_rest}
use Rattle.sw_grammar_forms.specs.Form.{Shape, Terminal, Form}
use Rattle.sw_grammar_forms.specs.Relations.{Relation, NoToken, One, FollowedBy, Either, Only, Turns, stop}
use Rattle.sw_grammar_forms.specs.Relations.{turn, Chosen}
use Rattle.sw_grammar_forms.specs.Relations.{Passing, spelled}
use Rattle.sw_grammar_forms.specs.Sets.{has}
use Rattle.sw_grammar_forms.specs.Spells.{inside}

abbrev pub none : Weight
none k = 0

-- What tokens weigh, and a test that the tokens of a text pass, and so those of each part of it.
pub record Tally : Type 0 where
  pub of_token : Spelled → Weight
  pub known : List Spelled → Bool
  pub known_left : (us vs : List Spelled) → IsTrue (known (us ++ vs)) → IsTrue (known us)
  pub known_right : (us vs : List Spelled) → IsTrue (known (us ++ vs)) → IsTrue (known vs)

-- tokens that only have a weight
abbrev pub tally_of : (Spelled → Weight) → Tally
tally_of of_token = record {
  of_token = of_token;
  known = λ tokens. true;
  known_left = λ us vs _. refl;
  known_right = λ us vs _. refl;
}

module _ (tally : Tally) where
  -- tokens of a text, from an offset on
  pub record Stands (from : ℕ) (tokens : List Spelled) : Type 0 where
    pub texts : AllByRecursion HasTokenText tokens
    pub apart : StandApart from tokens
    pub known : IsTrue (tally.known tokens)

  pub stands_left : (from : ℕ) (us vs : List Spelled) → Stands from (us ++ vs) → Stands from us
  stands_left from us vs all = record {
    texts = texts_prefix us vs all.texts;
    apart = StandApart-prefix from us vs all.apart;
    known = tally.known_left us vs all.known;
  }

  pub stands_right : (from : ℕ) (us vs : List Spelled) → Stands from (us ++ vs)
      → Stands (end_of from us) vs
  stands_right from us vs all = record {
    texts = texts_rest us vs all.texts;
    apart = StandApart-rest from us vs all.apart;
    known = tally.known_right us vs all.known;
  }

  -- a weight that tokens between two offsets pay
  pub record Part (from to : ℕ) (weight : Weight) : Type 0 where
    pub tokens : List Spelled
    pub texts : AllByRecursion HasTokenText tokens
    pub apart : StandApart from tokens
    pub end : end_of from tokens ≡ to
    pub paid : (k : ℕ) → weight k ≤ in_all tally.of_token tokens k

  -- of two weights the second is paid by later tokens
  pub record InTurn (first second : Weight) : Type 0 where
    pub from : ℕ
    pub middle : ℕ
    pub next : ℕ
    pub to : ℕ
    pub before : Part from middle first
    pub less : middle ≤ next
    pub after : Part next to second

  -- a weight that tokens after an offset pay
  pub record PaidAfter (at : ℕ) (weight : Weight) : Type 0 where
    pub from : ℕ
    pub to : ℕ
    pub later : at < from
    pub part : Part from to weight

  -- where tokens end that stand from an offset on
  ends_after : (from : ℕ) (tokens : List Spelled) → StandApart from tokens
      → from ≤ end_of from tokens
  ends_after from [] apart = omega arith
  ends_after from (token ∷ tokens) apart =
      let one = apart.0 in
      omega (arith, ends_after (token.at + length token.text) tokens apart.1)

  pub part_rises : {from to : ℕ} {weight : Weight} → Part from to weight → from ≤ to
  part_rises {from} part =
      subst (λ end. from ≤ end) part.end (ends_after from part.tokens part.apart)

  pub in_turn : {from middle next to : ℕ} {first second : Weight} → Part from middle first
      → middle ≤ next → Part next to second → InTurn first second
  in_turn {from} {middle} {next} {to} before less after = record {
    from = from;
    middle = middle;
    next = next;
    to = to;
    before = before;
    less = less;
    after = after;
  }

  -- what weighs less is paid by the same tokens
  pub part_of_less : {from to : ℕ} {weight less : Weight} → ((k : ℕ) → less k ≤ weight k)
      → Part from to weight → Part from to less
  part_of_less lighter part = record {
    tokens = part.tokens;
    texts = part.texts;
    apart = part.apart;
    end = part.end;
    paid = λ k. let one = part.paid k in let two = lighter k in omega arith;
  }

  pub paid_after_less : {at : ℕ} {weight less : Weight} → ((k : ℕ) → less k ≤ weight k)
      → PaidAfter at weight → PaidAfter at less
  paid_after_less lighter after = record {
    from = after.from;
    to = after.to;
    later = after.later;
    part = part_of_less lighter after.part;
  }

  pub record Owns {A : Type 0} (base : Weight) (P : Relation A) (w : A → Weight) : Type 0 where
    pub owns : (from : ℕ) (a : A) (tokens : List Spelled) → Stands from tokens → P a tokens → (k : ℕ)
        → w a k ≤ base k + in_all tally.of_token tokens k

  -- the same of tokens from one offset on
  pub record OwnsAt {A : Type 0} (from : ℕ) (base : Weight) (P : Relation A)
      (w : A → Weight) : Type 0 where
    pub owns_at : (a : A) (tokens : List Spelled) → Stands from tokens → P a tokens → (k : ℕ)
        → w a k ≤ base k + in_all tally.of_token tokens k

  pub own_at : {A : Type 0} {base : Weight} {P : Relation A} {w : A → Weight} (from : ℕ)
      → Owns base P w → OwnsAt from base P w
  own_at from own = record { owns_at = own.owns from }

  pub own_anywhere : {A : Type 0} {base : Weight} {P : Relation A} {w : A → Weight}
      → ((from : ℕ) → OwnsAt from base P w) → Owns base P w
  own_anywhere each = record { owns = λ from. (each from).owns_at }

  -- what one value weighs, where another is read after it
  abbrev part_of : {A : Type 0} {P : Relation A} {w : A → Weight} → Owns none P w → (from : ℕ) (a : A)
      (tokens : List Spelled) → Stands from tokens → P a tokens
      → Part from (end_of from tokens) (w a)
  part_of own from a tokens stands given = record {
    tokens = tokens;
    texts = stands.texts;
    apart = stands.apart;
    end = refl;
    paid = λ k. let one = own.owns from a tokens stands given k in omega arith;
  }

  -- no tokens
  pub part_empty : (from : ℕ) {weight : Weight} → ((k : ℕ) → weight k ≤ 0) → Part from from weight
  part_empty from none = record {
    tokens = [];
    texts = tt;
    apart = tt;
    end = refl;
    paid = λ k. let one = none k in omega (arith, in_all-nil tally.of_token k);
  }

  -- what weighs no more than a part and the tokens after it
  pub part_more : {from middle : ℕ} {weight more : Weight} → Part from middle weight
      → (tokens : List Spelled) → Stands middle tokens
      → ((k : ℕ) → more k ≤ weight k + in_all tally.of_token tokens k)
      → Part from (end_of middle tokens) more
  part_more {from} {middle} part tokens stands less = record {
    tokens = part.tokens ++ tokens;
    texts = texts_append part.tokens tokens part.texts stands.texts;
    apart = StandApart-append from part.tokens tokens part.apart
        (subst (λ at. StandApart at tokens) (sym part.end) stands.apart);
    end = end_of-append from part.tokens tokens ∙ ap (λ at. end_of at tokens) part.end;
    paid = λ k.
        let one = part.paid k in
        let two = less k in
        omega (arith, in_all-append tally.of_token part.tokens tokens k);
  }

  module _ {A : Type 0} where
    -- no token
    pub own_done : {base : Weight} {w : A → Weight} {a : A} → ((k : ℕ) → w a k ≤ base k)
        → Owns base (NoToken a) w
    own_done {base} {w} {a} less = record {
      owns = λ from b tokens stands given k.
          subst (λ x. w x k ≤ base k + in_all tally.of_token tokens k) (sym given.0)
          (let one = less k in omega arith);
    }

    -- a token, where what it gives weighs no more than it does
    pub own_text : (t : Terminal A) {w : A → Weight}
        → ((token : Spelled) → HasTokenText token → IsTrue (has t.set token) → (k : ℕ)
        → w (t.value token) k ≤ tally.of_token token k)
        → Owns none (One t) w
    own_text t {w} less = record {
      owns = λ from a tokens stands one k.
          let texts : AllByRecursion HasTokenText (one.token ∷ [])
          = subst (AllByRecursion HasTokenText) one.alone stands.texts in
          let here = less one.token texts.0 one.member k in
          let is : w a k ≡ w (t.value one.token) k = ap (λ x. w x k) one.value in
          let all = ap (λ ts. in_all tally.of_token ts k) one.alone in
          omega (
            arith,
            all,
            in_all-cons tally.of_token one.token [] k,
            in_all-nil tally.of_token k,
          );
    }

    pub own_token : (t : Terminal A) {w : A → Weight}
        → ((token : Spelled) → IsTrue (has t.set token) → (k : ℕ)
        → w (t.value token) k ≤ tally.of_token token k)
        → Owns none (One t) w
    own_token t less = own_text t (λ token text member k. less token member k)

    -- one after another, from an offset on, where it is known which tokens pay the first
    pub own_part : {B : Type 0} {base : Weight} {P : Relation A} {Q : A → Relation B}
        {w : B → Weight} {from : ℕ} (u : A → Weight) → Owns none P u
        → ((a : A) (to : ℕ) → Part from to (u a) → OwnsAt to (λ k. base k + u a k) (Q a) w)
        → OwnsAt from base (FollowedBy P Q) w
    own_part {base = base} {w = w} {from = from} u first second = record {
      owns_at = λ b tokens stands both k.
          let halves = subst (Stands from) both.whole stands in
          let part = part_of first from both.value both.left
          (stands_left from both.left both.right halves) both.first in
          let one = part.paid k in
          let two = (second both.value (end_of from both.left) part).owns_at b both.right
          (stands_right from both.left both.right halves) both.second k in
          let all = ap (λ ts. in_all tally.of_token ts k) both.whole in
          omega (arith, all, in_all-append tally.of_token both.left both.right k);
    }

    -- one after another: what the first weighs is left over for the second
    pub own_then : {B : Type 0} {base : Weight} {P : Relation A} {Q : A → Relation B}
        {w : B → Weight} (u : A → Weight) → Owns none P u
        → ((a : A) → Owns (λ k. base k + u a k) (Q a) w) → Owns base (FollowedBy P Q) w
    own_then u first second =
        own_anywhere (λ from. own_part u first (λ a to part. own_at to (second a)))

    -- one after another from an offset on, where the first takes all that is left over
    pub own_at_then : {B : Type 0} {base : Weight} {P : Relation A} {Q : A → Relation B}
        {w : B → Weight} {from : ℕ} (u : A → Weight) → OwnsAt from base P u
        → ((a : A) → Owns (u a) (Q a) w) → OwnsAt from base (FollowedBy P Q) w
    own_at_then {base = base} {w = w} {from = from} u first second = record {
      owns_at = λ b tokens stands both k.
          let halves = subst (Stands from) both.whole stands in
          let one = first.owns_at both.value both.left
          (stands_left from both.left both.right halves) both.first k in
          let two = (second both.value).owns (end_of from both.left) b both.right
          (stands_right from both.left both.right halves) both.second k in
          let all = ap (λ ts. in_all tally.of_token ts k) both.whole in
          omega (arith, all, in_all-append tally.of_token both.left both.right k);
    }

    module _ {base : Weight} {P Q : Relation A} {w : A → Weight} where
      -- one of two
      pub own_either : Owns base P w → Owns base Q w → Owns base (Either P Q) w
      own_either first second = record {
        owns = λ from a tokens stands one k. ⊎_elim (λ p. first.owns from a tokens stands p k)
            (λ q. second.owns from a tokens stands q k) one;
      }

      -- one of two, of which the first stands only under a condition
      pub own_when : (is_so : Bool) → (IsTrue is_so → Owns base P w) → Owns base Q w
          → Owns base (Either (Only is_so P) Q) w
      own_when is_so first second = record {
        owns = λ from a tokens stands one k. ⊎_elim
            (λ p. (first p.0).owns from a tokens stands p.1 k)
            (λ q. second.owns from a tokens stands q k) one;
      }

      -- one of two, of which the second stands only under a condition
      pub own_unless : (is_so : Bool) → Owns base P w → (IsTrue is_so → Owns base Q w)
          → Owns base (Either P (Only is_so Q)) w
      own_unless is_so first second = record {
        owns = λ from a tokens stands one k. ⊎_elim (λ p. first.owns from a tokens stands p k)
            (λ q. (second q.0).owns from a tokens stands q.1 k) one;
      }

      -- one or the other by a condition
      pub own_chosen : (is_so : Bool) → (IsTrue is_so → Owns base P w)
          → (is_so ≡ false → Owns base Q w) → Owns base (Chosen is_so P Q) w
      own_chosen true first second = first refl
      own_chosen false first second = second refl

    module _ {base : Weight} {P : Relation A} {w : A → Weight} where
      -- spellings whose first token passes a test
      pub own_passing : (test : Option Spelled → Bool) → Owns base P w
          → Owns base (Passing test P) w
      own_passing test first =
          record { owns = λ from a tokens stands one. first.owns from a tokens stands one.0 }

      -- spellings that stand only under a condition
      pub own_only : (is_so : Bool) → (IsTrue is_so → Owns base P w) → Owns base (Only is_so P) w
      own_only is_so first =
          record { owns = λ from a tokens stands one. (first one.0).owns from a tokens stands one.1 }

    -- a value that is dropped
    pub own_nothing : {base : Weight} {P : Relation A} → Owns base P (λ _. none)
    own_nothing = record { owns = λ from a tokens stands one k. omega arith }

    -- more may be left over, and less may be weighed
    pub own_more : {base more : Weight} {P : Relation A} {w less : A → Weight}
        → ((k : ℕ) → base k ≤ more k)
        → ((a : A) (k : ℕ) → less a k ≤ w a k) → Owns base P w → Owns more P less
    own_more left lighter first = record {
      owns = λ from a tokens stands one k.
          let here = first.owns from a tokens stands one k in
          let more = left k in
          let less = lighter a k in
          omega arith;
    }

    -- more may be left over
    pub own_with : {base more : Weight} {P : Relation A} {w : A → Weight}
        → ((k : ℕ) → base k ≤ more k) → Owns base P w → Owns more P w
    own_with left first = own_more left (λ a k. omega arith) first

    pub own_at_only : {base : Weight} {P : Relation A} {w : A → Weight} {from : ℕ} (is_so : Bool)
        → (IsTrue is_so → OwnsAt from base P w) → OwnsAt from base (Only is_so P) w
    own_at_only is_so first =
        record { owns_at = λ a tokens stands one. (first one.0).owns_at a tokens stands one.1 }

    pub own_at_with : {base more : Weight} {P : Relation A} {w : A → Weight} {from : ℕ}
        → ((k : ℕ) → base k ≤ more k) → OwnsAt from base P w → OwnsAt from more P w
    own_at_with left first = record {
      owns_at = λ a tokens stands given k.
          let here = first.owns_at a tokens stands given k in
          let more = left k in
          omega arith;
    }

  -- one after another, where the first takes from what is left over, and leaves the rest
  pub own_from : {A B : Type 0} {base start : Weight} {P : Relation A} {Q : A → Relation B}
      {w : B → Weight} (rest : Weight) (u : A → Weight) → ((k : ℕ) → rest k + start k ≤ base k)
      → Owns start P u → ((a : A) → Owns (λ k. rest k + u a k) (Q a) w)
      → Owns base (FollowedBy P Q) w
  own_from {base = base} {w = w} rest u less first second = record {
    owns = λ from b tokens stands both k.
        let halves = subst (Stands from) both.whole stands in
        let one = first.owns from both.value both.left
        (stands_left from both.left both.right halves) both.first k in
        let two = (second both.value).owns (end_of from both.left) b both.right
        (stands_right from both.left both.right halves) both.second k in
        let here = less k in
        let all = ap (λ ts. in_all tally.of_token ts k) both.whole in
        omega (arith, all, in_all-append tally.of_token both.left both.right k);
  }

  -- one after another, where the value of the first is dropped
  pub own_past : {A B : Type 0} {base : Weight} {P : Relation A} {Q : A → Relation B} {w : B
      → Weight}
      → ((a : A) → Owns base (Q a) w) → Owns base (FollowedBy P Q) w
  own_past second =
      own_then (λ _. none) own_nothing
      (λ a. own_more (λ k. omega arith) (λ b k. omega arith) (second a))

  -- the same from an offset on
  pub own_past_at : {A B : Type 0} {base : Weight} {P : Relation A} {Q : A → Relation B}
      {w : B → Weight} {from : ℕ}
      → ((a : A) (to : ℕ) → from ≤ to → OwnsAt to base (Q a) w)
      → OwnsAt from base (FollowedBy P Q) w
  own_past_at {A} {base = base} {from = from} second =
      own_part (λ _. none) own_nothing (λ a to part.
      let it = second a to (part_rises part) in
      record {
        owns_at = λ b tokens stands given k.
            let one = it.owns_at b tokens stands given k in omega arith;
      })

  -- Tokens that follow one another directly.

  -- after these tokens
  pub record OwnsAfter {A : Type 0} (before : List Spelled) (base : Weight) (P : Relation A)
      (w : A → Weight) : Type 0 where
    pub owns_after : (from : ℕ) (a : A) (tokens : List Spelled) → Stands from (before ++ tokens)
        → P a tokens → (k : ℕ) → w a k ≤ base k + in_all tally.of_token tokens k

  pub own_after_none : {A : Type 0} {base : Weight} {P : Relation A} {w : A → Weight}
      → OwnsAfter [] base P w → Owns base P w
  own_after_none own = record { owns = λ from. own.owns_after from }

  pub own_after_any : {A : Type 0} {before : List Spelled} {base : Weight} {P : Relation A}
      {w : A → Weight} → Owns base P w → OwnsAfter before base P w
  own_after_any {before = before} own = record {
    owns_after = λ from a tokens stands.
        own.owns (end_of from before) a tokens (stands_right from before tokens stands);
  }

  pub own_after_either : {A : Type 0} {before : List Spelled} {base : Weight} {P Q : Relation A}
      {w : A → Weight} → OwnsAfter before base P w → OwnsAfter before base Q w
      → OwnsAfter before base (Either P Q) w
  own_after_either first second = record {
    owns_after = λ from a tokens stands one k. ⊎_elim
        (λ p. first.owns_after from a tokens stands p k)
        (λ q. second.owns_after from a tokens stands q k) one;
  }

  -- spellings whose first token passes a test, and what comes after them
  pub own_after_test : {A B : Type 0} {before : List Spelled} {base : Weight} {P : Relation A}
      {Q : A → Relation B} {w : B → Weight} (test : Option Spelled → Bool)
      → OwnsAfter before base (FollowedBy P Q) w
      → OwnsAfter before base (FollowedBy (Passing test P) Q) w
  own_after_test test own = record {
    owns_after = λ from b tokens stands both. own.owns_after from b tokens stands (record {
      value = both.value;
      left = both.left;
      right = both.right;
      first = both.first.0;
      second = both.second;
      whole = both.whole;
    });
  }

  module _ {A B : Type 0} {base : Weight} (t : Terminal A) {Q : A → Relation B} {w : B → Weight}
      (u : A → Weight)
      (less : (token : Spelled) → HasTokenText token → IsTrue (has t.set token) → (k : ℕ)
      → u (t.value token) k ≤ tally.of_token token k) where
    -- a token, and what comes after it
    pub own_read : {before : List Spelled}
        → ((token : Spelled) → HasTokenText token → IsTrue (has t.set token)
        → IsTrue (tally.known (before ++ token ∷ []))
        → OwnsAfter (before ++ token ∷ []) (λ k. base k + u (t.value token) k)
        (Q (t.value token)) w)
        → OwnsAfter before base (FollowedBy (One t) Q) w
    own_read {before} second = record {
      owns_after = λ from b tokens stands both k.
          let one = both.first in
          let whole : tokens ≡ one.token ∷ both.right
          = both.whole ∙ ap (λ ts. ts ++ both.right) one.alone in
          let with_one : before ++ tokens ≡ (before ++ one.token ∷ []) ++ both.right
          = ap (λ ts. before ++ ts) whole ∙ sym (append_assoc before (one.token ∷ []) both.right) in
          let standing = subst (Stands from) with_one stands in
          let first = stands_left from (before ++ one.token ∷ []) both.right standing in
          let text : HasTokenText one.token =
          (stands_right from before (one.token ∷ []) first).texts.0 in
          let rest = (second one.token text one.member first.known).owns_after from b both.right
          standing (subst (λ a. Q a b both.right) one.value both.second) k in
          let here = less one.token text one.member k in
          let all = ap (λ ts. in_all tally.of_token ts k) whole in
          omega (arith, all, in_all-cons tally.of_token one.token both.right k);
    }

  -- turns: what a state weighs is left over for the next turn
  module _ {S : Type 0} {One : S → Relation S} {w : S → Weight}
      (each : (s : S) → Owns (w s) (One s) w) where
    turned : (from : ℕ) (s last : S) (tokens : List Spelled) → Stands from tokens
        → Turns One s last tokens → (k : ℕ)
        → w last k ≤ w s k + in_all tally.of_token tokens k
    turned from s last tokens stands (stop s') k = omega arith
    turned from s last tokens stands (turn s' next last' us vs one more) k =
        let here = (each s').owns from next us (stands_left from us vs stands) one k in
        omega (
          arith,
          turned (end_of from us) next last' vs (stands_right from us vs stands) more k,
          in_all-append tally.of_token us vs k,
        )

    pub own_turns : (s : S) → Owns (w s) (Turns One s) w
    own_turns s =
        record { owns = λ from last tokens stands all. turned from s last tokens stands all }

  -- a nest: a token and what stands after it
  pub own_nest : {A B : Type 0} {base : Weight} {P : Relation A} {Q : Relation B}
      {w : A × B → Weight} (u : A → Weight) (v : B → Weight) → Owns none P u → Owns none Q v
      → ((a : A) (b : B) (k : ℕ) → w (a, b) k ≤ base k + u a k + v b k)
      → Owns base (FollowedBy P (λ a. FollowedBy Q (λ b. NoToken (a, b)))) w
  own_nest u v first second less =
      own_then u first (λ a. own_then v (own_more (λ k. omega arith) (λ b k. omega arith) second)
      (λ b. own_done (λ k. let one = less a b k in omega arith)))

  -- a token and what comes after it, of which it is known that later tokens pay it
  pub own_later : {A B : Type 0} {base : Weight} (t : Terminal ℕ) {Q : Relation A}
      {R : ℕ → A → Relation B} {w : B → Weight} (u : ℕ → Weight) (v : A → Weight)
      → ((token : Spelled) → t.value token ≡ token.at) → Owns none (One t) u → Owns none Q v
      → ((at : ℕ) (a : A) → PaidAfter at (v a) → Owns (λ k. base k + u at k + v a k) (R at a) w)
      → Owns base (FollowedBy (One t) (λ at. FollowedBy Q (R at))) w
  own_later {base = base} t {w = w} u v place first second last = record {
    owns = λ from b tokens stands both k.
        let halves = subst (Stands from) both.whole stands in
        let opening = both.first in
        let opened = stands_left from both.left both.right halves in
        let one = first.owns from both.value both.left opened opening k in
        let middle = end_of from both.left in
        let rest = stands_right from both.left both.right halves in
        let after = both.second in
        let inner = subst (Stands middle) after.whole rest in
        let part = part_of second middle after.value after.left
        (stands_left middle after.left after.right inner) after.first in
        let texts : AllByRecursion HasTokenText (opening.token ∷ [])
        = subst (AllByRecursion HasTokenText) opening.alone opened.texts in
        let at : both.value ≡ opening.token.at = opening.value ∙ place opening.token in
        let end : middle ≡ opening.token.at + length opening.token.text
        = ap (end_of from) opening.alone in
        let here = (last both.value after.value (record {
          from = middle;
          to = end_of middle after.left;
          later = omega (arith, some_token true opening.token.text [] texts.0);
          part = part;
        })).owns (end_of middle after.left) b after.right
        (stands_right middle after.left after.right inner) after.second k in
        let two = part.paid k in
        let all = ap (λ ts. in_all tally.of_token ts k) both.whole in
        let more = ap (λ ts. in_all tally.of_token ts k) after.whole in
        omega (
          arith,
          all,
          more,
          in_all-append tally.of_token both.left both.right k,
          in_all-append tally.of_token after.left after.right k,
        );
  }

  -- a nest, where what stands in it is paid by the tokens after its first
  pub own_opened_nest : {B : Type 0} {base : Weight} (t : Terminal ℕ) {Q : Relation B}
      {w : ℕ × B → Weight} (u : ℕ → Weight) (v : B → Weight)
      → ((token : Spelled) → t.value token ≡ token.at) → Owns none (One t) u → Owns none Q v
      → ((a : ℕ) (b : B) → PaidAfter a (v b) → (k : ℕ) → w (a, b) k ≤ base k + u a k + v b k)
      → Owns base (FollowedBy (One t) (λ a. FollowedBy Q (λ b. NoToken (a, b)))) w
  own_opened_nest t u v place first second less =
      own_later t u v place first second (λ a b after. own_done (less a b after))

  -- The nests of a grammar own what they weigh, at each depth, where their bodies do over nests
  -- that do.
  module _ {N : Type 0} (El : N → Type 0) (shape_of : N → Shape)
      (body : (n : N) → Form El shape_of (shape_of n) (El n)) (IsGood : N → Type 0)
      (w : (n : N) → El n → Weight)
      (own_body : (table : (n : N) → Relation (El n))
      → ((n : N) → IsGood n → Owns none (table n) (w n))
      → (n : N) → IsGood n → Owns none (spelled El shape_of table (body n)) (w n)) where
    pub own_inside : (depth : ℕ) (n : N) → IsGood n
        → Owns none (inside El shape_of body depth n) (w n)
    own_inside zero n good = record { owns = λ from a tokens stands never. absurd never }
    own_inside (suc depth) n good =
        own_body (inside El shape_of body depth) (own_inside depth) n good
