-- The record `Reads` for items that a `;` ends or the next line.
use Rattle.std.proofs.Common.{◌≡◌, ℕ, ◌<◌, Bool, true, false, not, inl, inr, List, [], ◌∷◌}
use Rattle.std.proofs.Common.{◌++◌, length, refl, sym, ◌∙◌, ap, subst, append_assoc, arith, codes}
use Rattle.std.proofs.Common.{length-append}
use Rattle.std.specs.Prelude.{Option, Some, None, Ok}
use Rattle.std.proofs.lemmas.List.{append-nil}
use Rattle.sw_token.specs.declared.Fixity.TheVariants as fixities
use Rattle.sw_token.specs.Spelling.{Spelled}
use Rattle.sw_grammar_forms.specs.Sets.{has, starts, first_only}
use Rattle.sw_grammar_forms.specs.Form.{Shape, semicolon, items_ext}
use Rattle.sw_grammar_forms.specs.Quotes.{quote}
use Rattle.sw_grammar_forms.specs.Relations.{Relation, head, is_first_on_line, NoToken, One, FollowedBy}
use Rattle.sw_grammar_forms.specs.Relations.{Turns, Passing, may_start, Skipped, OneMore}
use Rattle.sw_grammar_forms.specs.Relations.Turns.{stop, turn}
use Rattle.sw_grammar_forms.specs.Reader.{Reader, then_read, next, checked, skipping}
use Rattle.sw_grammar_forms.specs.Reader.{read_item, read_items}
use Rattle.sw_grammar_forms.proofs.ReaderLaws.{Follow, Anything, Outside, Without, Filled, Reads}
use Rattle.sw_grammar_forms.proofs.ReaderLaws.{restate, narrow, widen, reads_pure, reads_next, reads_then}
use Rattle.sw_grammar_forms.proofs.ReaderLaws.{reads_choose, reads_checked}
use Rattle.sw_grammar_forms.proofs.LoopLaws.{IsTurn, Open, reads_loop, loop_ends, loop_turns, turn_shrinks}
use Rattle.sw_grammar_forms.proofs.SetLemmas.{sample_is_token, has-apart, has-first_only}
use Rattle.sw_grammar_forms.proofs.FormLemmas.{StartsWith, GoodItem, Turns-map}
use Rattle.sw_grammar_forms.proofs.FollowLemmas.{apart_back, outside_parts, some_first, some_head}
use Rattle.sw_grammar_forms.proofs.FollowLemmas.{some_length}

-- what follows a `;`, or its absence
abbrev AfterMark : Follow Bool
AfterMark true token = Unit {0}
AfterMark false token = Outside semicolon token

mark_filler : (from : ℕ) → Filled (One (quote (codes ";"))) [] from
unfolding has
mark_filler from = record {
  value = from;
  filler = record { text = codes ";"; at = from; fixity = fixities.None; first = false } ∷ [];
  spelled = record {
    token = record { text = codes ";"; at = from; fixity = fixities.None; first = false };
    member = refl;
    value = refl;
    alone = refl;
  };
  fills = (refl, sample_is_token (codes ";") refl, tt);
}

reads_mark : Reads Skipped Skipped AfterMark (skipping (codes ";"))
reads_mark = reads_choose Skipped semicolon
    (reads_then (FollowedBy (One (quote (codes ";"))) (λ _. NoToken true)) {F = Anything}
    (reads_next (quote (codes ";")) mark_filler) (λ a. narrow (reads_pure true) (λ b token g. tt))
    (λ a b us vs h k. record {
      value = a;
      left = us;
      right = vs;
      first = h;
      second = k;
      whole = refl;
    })
    (λ a b right rest h g. tt))
    (narrow (reads_pure false) (λ b token g. tt))
    (λ marked prefix rest h g.
    ap (λ ws. starts semicolon (head (ws ++ rest)))
    (h.whole ∙ ap (λ ws. ws ++ h.right) h.first.alone) ∙ h.first.member)
    (λ marked prefix rest h g.
    ap (λ ws. starts semicolon (head (ws ++ rest))) h.1
    ∙ subst (λ b. AfterMark b (head rest)) h.0 g)
    (λ marked ts h. inl h) (λ marked ts h. inr h)

abbrev pub after_item : Shape → Bool → Option Spelled → Type 0
after_item s true token = Unit {0}
after_item s false token = Outside s.ext token × Outside semicolon token

-- what follows an item, by whether a `;` ends it
abbrev pub AfterItem : {A : Type 0} → Shape → Follow (List A × Bool)
AfterItem s state token = after_item s state.1 token

-- the end may follow
pub after_end : (s : Shape) (ended : Bool) → after_item s ended None
after_end s true = tt
after_end s false = (refl, refl)

stopped : (s : Shape) (ended : Bool) (token : Option Spelled) → Outside (items_ext s) token
    → after_item s ended token
stopped s true token g = tt
stopped s false token g = let outer = outside_parts (s.ext ++ semicolon) s.first token g in
    outside_parts s.ext semicolon token outer.0

pub after_not_ended : (s : Shape) → GoodItem s → (token : Option Spelled)
    → starts s.first token ≡ true → is_first_on_line token ≡ true → after_item s false token
after_not_ended s is None h k = absurd (cc)
after_not_ended s is (Some token) h k = (
  apart_back s.ext (first_only s.first) token is.next_line (has-first_only s.first token k h),
  has-apart s.first semicolon token is.no_mark h,
)

module _ {A : Type 0} (s : Shape) (P V : Relation A) (p : Reader A) (is : GoodItem s)
    (law_p : Reads P V (Without s.ext) p) (begins : (a : A) (ts : List Spelled) → P a ts
    → StartsWith s ts)
    (led : (asked : Bool) (from : ℕ) → Filled (Passing (may_start asked) V) [] from) where
  abbrev State : Type 0
  State = List A × Bool

  reads_led : (state : State)
      → Reads (Passing (may_start (not state.1)) P) (Passing (may_start (not state.1)) V)
      (Without s.ext)
      (checked (may_start (not state.1)) p)
  reads_led state = reads_checked (Passing (may_start (not state.1)) V)
      (may_start (not state.1)) law_p
      (λ a prefix rest h. some_head s prefix rest is.some (begins a prefix h))
      (λ a ts h passes. (h, passes)) (led (not state.1))

  after_marked : (ended : Bool) (state : State) (x : A) (next : State) (right rest : List Spelled)
      → NoToken (state.0 ++ x ∷ [], ended) next right → AfterItem s next (head rest)
      → AfterMark ended (head (right ++ rest))
  after_marked true state x next right rest h g = tt
  after_marked false state x next right rest h g =
      let both : after_item s false (head rest) =
      subst (λ b. after_item s b (head rest)) (ap (λ n. n.1) h.0) g in
      ap (λ ws. starts semicolon (head (ws ++ rest))) h.1 ∙ both.1

  after_led : (state : State) (x : A) (next : State) (right rest : List Spelled)
      → FollowedBy Skipped (λ ended. NoToken (state.0 ++ x ∷ [], ended)) next right
      → AfterItem s next (head rest) → Outside s.ext (head (right ++ rest))
  after_led state x next right rest h g = by_mark h.first
    where
      by_mark : Skipped h.value h.left → Outside s.ext (head (right ++ rest))
      by_mark (inl mark) =
          let whole : right ++ rest ≡ mark.first.token ∷ ((mark.right ++ h.right) ++ rest)
          = ap (λ ws. ws ++ rest) (h.whole
          ∙ ap (λ ws. ws ++ h.right)
          (mark.whole ∙ ap (λ ws. ws ++ mark.right) mark.first.alone)) in
          ap (λ ws. starts s.ext (head ws)) whole
          ∙ apart_back s.ext semicolon mark.first.token is.next_mark mark.first.member
      by_mark (inr none) =
          let ended : next.1 ≡ false = ap (λ n. n.1) h.second.0 ∙ none.0 in
          let both : after_item s false (head rest) =
          subst (λ b. after_item s b (head rest)) ended g in
          let whole : right ++ rest ≡ rest =
          ap (λ ws. ws ++ rest) (h.whole ∙ (ap (λ ws. ws ++ h.right) none.1 ∙ h.second.1)) in
          ap (λ ws. starts s.ext (head ws)) whole ∙ both.0

  pub reads_one_more : (state : State) → Reads (OneMore P state) (OneMore V state) (AfterItem s)
      (read_item p state)
  reads_one_more state =
      reads_then (OneMore V state) (reads_led state)
      (λ x. reads_then (FollowedBy Skipped (λ ended. NoToken (state.0 ++ x ∷ [], ended))) reads_mark
      (λ ended. narrow (reads_pure (state.0 ++ x ∷ [], ended)) (λ b token g. tt))
      (λ ended next us vs h k. record {
        value = ended;
        left = us;
        right = vs;
        first = h;
        second = k;
        whole = refl;
      })
      (λ ended next right rest h g. after_marked ended state x next right rest h g))
      (λ x next us vs h k. record {
        value = x;
        left = us;
        right = vs;
        first = h;
        second = k;
        whole = refl;
      })
      (λ x next right rest h g. after_led state x next right rest h g)

  -- the first token of an item after another
  item_head : (state next : State) (ts rest : List Spelled) → (h : OneMore P state next ts)
      → head (ts ++ rest) ≡ head h.left
  item_head state next ts rest h =
      ap (λ ws. head (ws ++ rest)) h.whole
      ∙ (ap head (append_assoc h.left h.right rest) ∙ some_head s h.left (h.right ++ rest) is.some
      (begins h.value h.left h.first.0))

  item_first : (state next : State) (ts rest : List Spelled) → OneMore P state next ts
      → starts s.first (head (ts ++ rest)) ≡ true
  item_first state next ts rest h =
      ap (starts s.first) (item_head state next ts rest h)
      ∙ (ap (λ ws. starts s.first (head ws)) (sym (append-nil h.left))
      ∙ some_first s h.left [] is.some (begins h.value h.left h.first.0))

  item_length : (state next : State) (ts : List Spelled) → OneMore P state next ts → 0 < length ts
  item_length state next ts h =
      let some = some_length s h.left is.some (begins h.value h.left h.first.0) in
      omega (arith, ap length h.whole, length-append h.left h.right)

  followed : (state next : State) (ts rest : List Spelled) → OneMore P state next ts
      → AfterItem s state (head (ts ++ rest))
  followed state next ts rest h = by_ended state.1 refl
    where
      by_ended : (b : Bool) → state.1 ≡ b → after_item s b (head (ts ++ rest))
      by_ended true e = tt
      by_ended false e =
          let leads : is_first_on_line (head h.left) ≡ true =
          ap (λ b. may_start (not b) (head h.left)) (sym e) ∙ h.first.1 in
          after_not_ended s is (head (ts ++ rest)) (item_first state next ts rest h)
          (ap is_first_on_line (item_head state next ts rest h) ∙ leads)

  pub is_items_turn : IsTurn (λ _. true) (OneMore P) (AfterItem s) (Without (items_ext s)) s.first
  is_items_turn = record {
    takes = item_length;
    goes_on = item_first;
    ends = λ state token _ g. (outside_parts (s.ext ++ semicolon) s.first token g).1;
    stopped = λ state token g. stopped s state.1 token g;
    followed = λ state next ts rest h. by_state state next ts rest h;
  }
    where
      by_state : (state next : State) (ts rest : List Spelled) → OneMore P state next ts
          → after_item s state.1 (head (ts ++ rest))
      by_state state next ts rest h = followed state next ts rest h

  always : {R : State → Relation State} (a b : State) (ts : List Spelled) → Turns R a b ts
      → Turns (Open (λ _. true) R) a b ts
  always {R} a b ts h = Turns-map (λ a b us k. (refl, k)) a b ts h

  ever : {R : State → Relation State} (a b : State) (ts : List Spelled)
      → Turns (Open (λ _. true) R) a b ts → Turns R a b ts
  ever {R} a b ts h = Turns-map (λ a b us k. k.1) a b ts h

  pub reads_items : (state : State) → Reads (Turns (OneMore P) state) (Turns (OneMore V) state)
      (Without (items_ext s)) (read_items s.first p state)
  reads_items state =
      widen (restate (reads_loop s.first (λ _. true) reads_one_more is_items_turn state)
      (λ b ts h. ever state b ts h) (λ b ts h. always state b ts h))
      (λ b ts h. ever state b ts h)

  fits_items : (state last : State) (right rest : List Spelled) → Turns (OneMore P) state last right
      → Outside (items_ext s) (head rest)
      → AfterItem s state (head (right ++ rest))
  fits_items state last right rest (stop _) g = stopped s state.1 (head rest) g
  fits_items state last right rest (turn _ next _ us vs one others) g =
      subst (λ ts. AfterItem s state (head ts)) (sym (append_assoc us vs rest))
      (followed state next us (vs ++ rest) one)

  pub reads_some_items : Reads (FollowedBy (OneMore P ([], true)) (Turns (OneMore P)))
      (FollowedBy (OneMore V ([], true)) (Turns (OneMore V))) (Without (items_ext s))
      (then_read (read_item p ([], true)) (read_items s.first p))
  reads_some_items =
      reads_then (FollowedBy (OneMore V ([], true)) (Turns (OneMore V)))
      (reads_one_more ([], true)) reads_items
      (λ state last us vs h k. record {
        value = state;
        left = us;
        right = vs;
        first = h;
        second = k;
        whole = refl;
      })
      fits_items

  -- What the code's loops need: the items answer as the next and those after it.

  pub items_stop : (state : State) (ts : List Spelled) → starts s.first (head ts) ≡ false
      → read_items s.first p state ts ≡ Ok (state, ts)
  items_stop state ts h = loop_ends s.first (λ _. true) reads_one_more is_items_turn state ts h

  pub items_go_on : (state : State) (ts : List Spelled) → starts s.first (head ts) ≡ true
      → read_items s.first p state ts ≡ then_read (read_item p state) (read_items s.first p) ts
  items_go_on state ts h = loop_turns s.first (λ _. true) reads_one_more is_items_turn state ts h

  pub item_takes : (state next : State) (ts rest : List Spelled)
      → read_item p state ts ≡ Ok (next, rest) → length rest < length ts
  item_takes state next ts rest e =
      turn_shrinks s.first (λ _. true) reads_one_more is_items_turn state next ts rest e
