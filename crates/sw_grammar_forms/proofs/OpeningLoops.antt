-- The record `Opening` for loops of readers.
use Rattle.std.proofs.Common.{◌≡◌, ℕ, zero, suc, Bool, true, false, inl, inr, List, []}
use Rattle.std.proofs.Common.{◌++◌, length, refl, sym, ◌∙◌, ap, subst, append_assoc, arith}
use Rattle.std.proofs.Common.{length-append}
use Rattle.std.specs.Prelude.{Ok, Err}
use Rattle.sw_token.specs.Spelling.{Spelled}
use Rattle.sw_grammar_forms.specs.Sets.{Set, starts}
use Rattle.sw_grammar_forms.specs.Relations.{Relation, head, Turns}
use Rattle.sw_grammar_forms.specs.Relations.Turns.{stop, turn}
use Rattle.sw_grammar_forms.specs.Reader.{Answer, Reader, refused, then_read, set_if, repeat, loop}
use Rattle.sw_grammar_forms.specs.Reader.Fault.{too_deep}
use Rattle.sw_grammar_forms.specs.Opens.{Saying, After}
use Rattle.sw_grammar_forms.proofs.ReaderLaws.{Follow, Reads, bind_err, bind_stop, bind_step, cond_cases}
use Rattle.sw_grammar_forms.proofs.LoopLaws.{IsTurn, Open, no_token, loop_turns}
use Rattle.sw_grammar_forms.proofs.Opening.{TooDeepBefore, Passes, Opened, Opening, Begin}

-- turns, and tokens of which this is said of the state that they lead to
abbrev pub InTurns : {S : Type 0} → (S → Bool) → (S → Relation S) → (S → Saying) → S → Saying
InTurns {S} is_open V O state = After (Turns (Open is_open V) state)
    (λ s us. (is_open s ≡ true) × O s us)

module _ {S : Type 0} (P V : S → Relation S) (F G : Follow S) (O : S → Saying) (set : Set)
    (is_open : S → Bool) (turn_of : S → Reader S)
    (reads : (s : S) → Reads (P s) (V s) F (turn_of s))
    (is : IsTurn is_open P F G set) (is_wide : IsTurn is_open V F G set)
    (passes : (s : S) → Passes (V s) F (turn_of s))
    (opens : (s : S) → Opening (O s) (turn_of s)) (begins : (s : S) → Begin set true (O s))
    (fits : (s : S) (us rest : List Spelled) → O s us → F s (head (us ++ rest))) where
  set_of : S → Set
  set_of s = set_if (is_open s) set

  is_open_there : (s : S) (ts : List Spelled) → starts (set_if (is_open s) set) (head ts) ≡ true
      → is_open s ≡ true
  is_open_there s ts h = by_state (is_open s) h
    where
      by_state : (b : Bool) → starts (set_if b set) (head ts) ≡ true → b ≡ true
      by_state true h = refl
      by_state false h = absurd (let clash : false ≡ true = sym (no_token (head ts)) ∙ h in cc)

  repeat_names : (n : ℕ) (s : S) (ts : List Spelled) (left : ℕ)
      → repeat set is_open turn_of n s ts ≡ Err (too_deep left)
      → Opened (InTurns is_open V O s) ts left
  repeat_names zero s ts left e =
      elim (cond_cases (starts (set_if (is_open s) set) (head ts)) (refused ts) (Ok (s, ts))
      (Err (too_deep left)) e) [
        | inl h ↦ absurd (let clash : ◌≡◌ {A = Answer S} (refused ts) (Err (too_deep left)) = h.1
            in cc)
        | inr h ↦ absurd (let clash : ◌≡◌ {A = Answer S} (Ok (s, ts)) (Err (too_deep left)) = h.1
            in cc)
      ]
  repeat_names (suc n) s ts left e =
      elim (cond_cases (starts (set_if (is_open s) set) (head ts))
      (then_read (turn_of s) (repeat set is_open turn_of n) ts) (Ok (s, ts))
      (Err (too_deep left)) e) [
        | inl h ↦ elim (bind_err (turn_of s ts) (λ x. repeat set is_open turn_of n x.0 x.1)
            (too_deep left) h.1) [
              | inl one ↦ (let opened = (opens s).names ts left one in record {
                upto = opened.upto;
                more = opened.more;
                split = opened.split;
                count = opened.count;
                said = record {
                  value = s;
                  left = [];
                  right = opened.upto;
                  first = stop s;
                  last = (is_open_there s ts h.0, opened.said);
                  whole = refl;
                };
              })
              | inr two ↦ (
                  let found = (reads s).sound ts two.0.0 two.0.1 two.1 in
                  let opened = repeat_names n two.0.0 two.0.1 left two.2 in
                  record {
                    upto = found.prefix ++ opened.upto;
                    more = opened.more;
                    split = found.split ∙ (ap (λ us. found.prefix ++ us) opened.split
                        ∙ sym (append_assoc found.prefix opened.upto opened.more));
                    count = opened.count;
                    said = record {
                      value = opened.said.value;
                      left = found.prefix ++ opened.said.left;
                      right = opened.said.right;
                      first =
                          let wide = (reads s).wide two.0.0 found.prefix found.spelled in
                          turn s two.0.0 opened.said.value found.prefix opened.said.left
                          (is_open_there s ts h.0, wide) opened.said.first;
                      last = opened.said.last;
                      whole = ap (λ us. found.prefix ++ us) opened.said.whole
                          ∙ sym (append_assoc found.prefix opened.said.left opened.said.right);
                    };
                  })
            ]
        | inr h ↦ absurd (let clash : ◌≡◌ {A = Answer S} (Ok (s, ts)) (Err (too_deep left)) = h.1
            in cc)
      ]

  -- what follows a state: a turn, or tokens that open a nest in one
  pub fits_turns : (s t : S) (ls rs more : List Spelled) → Turns (Open is_open V) s t ls → O t rs
      → F s (head (ls ++ (rs ++ more)))
  fits_turns s t ls rs more (stop _) h = fits s rs more h
  fits_turns s t ls rs more (turn _ next _ us vs one others) h =
      subst (λ ws. F s (head ws)) (sym (append_assoc us vs (rs ++ more)))
      (is_wide.followed s next us (vs ++ (rs ++ more)) one.1)

  goes_on : (s : S) (ts : List Spelled) → is_open s ≡ true → starts set (head ts) ≡ true
      → loop set is_open turn_of s ts ≡ then_read (turn_of s) (loop set is_open turn_of) ts
  goes_on s ts now h = loop_turns set is_open reads is s ts
      (ap (λ b. starts (set_if b set) (head ts)) now ∙ h)

  loop_finds : (s t : S) (ls rs more : List Spelled) → Turns (Open is_open V) s t ls
      → is_open t ≡ true → O t rs
      → TooDeepBefore (loop set is_open turn_of s (ls ++ (rs ++ more))) more
  loop_finds s t ls rs more (stop _) now h =
      let deep = (opens s).finds rs more h in (
        deep.0,
        goes_on s (rs ++ more) now (begins s rs more h)
            ∙ bind_stop (turn_of s (rs ++ more)) (λ x. loop set is_open turn_of x.0 x.1)
            (too_deep deep.0) deep.1,
        deep.2,
      )
  loop_finds s t ls rs more (turn _ next _ us vs one others) now h =
      let after : List Spelled = vs ++ (rs ++ more) in
      let go : loop set is_open turn_of s (us ++ after)
      ≡ then_read (turn_of s) (loop set is_open turn_of) (us ++ after)
      = goes_on s (us ++ after) one.0 (is_wide.goes_on s next us after one.1) in
      subst (λ ws. TooDeepBefore (loop set is_open turn_of s ws) more)
      (sym (append_assoc us vs (rs ++ more)))
      (elim (passes s next us after one.1 (fits_turns next t vs rs more others h)) [
        | inl read ↦ (let deep = loop_finds next t vs rs more others now h in (
          deep.0,
          go ∙ bind_step (turn_of s (us ++ after)) (λ x. loop set is_open turn_of x.0 x.1)
              (next, after) (Err (too_deep deep.0)) read deep.1,
          deep.2,
        ))
        | inr deep ↦ (
          deep.0,
          go ∙ bind_stop (turn_of s (us ++ after)) (λ x. loop set is_open turn_of x.0 x.1)
              (too_deep deep.0) deep.1,
          omega (arith, deep.2, length-append vs (rs ++ more), length-append rs more),
        )
      ])

  pub opens_turns : (s : S) → Opening (InTurns is_open V O s) (loop set is_open turn_of s)
  opens_turns s = record {
    names = λ ts left e. repeat_names (length ts) s ts left e;
    finds = λ us more h. subst (λ ws. TooDeepBefore (loop set is_open turn_of s ws) more)
        (sym (ap (λ ws. ws ++ more) h.whole ∙ append_assoc h.left h.right more))
        (loop_finds s h.value h.left h.right more h.first h.last.0 h.last.1);
    some = λ us h.
        let more = (opens h.value).some h.right h.last.1 in
        omega (arith, more, ap length h.whole, length-append h.left h.right);
  }

  -- with which token they begin
  pub begins_turns : (s : S) → (us rest : List Spelled) → InTurns is_open V O s us
      → starts set (head (us ++ rest)) ≡ true
  begins_turns s us rest h =
      let text : us ++ rest ≡ h.left ++ (h.right ++ rest)
      = ap (λ ws. ws ++ rest) h.whole ∙ append_assoc h.left h.right rest in
      ap (λ ws. starts set (head ws)) text ∙ by_turns h.value h.left h.first h.last.1
    where
      by_turns : (t : S) (ls : List Spelled) → Turns (Open is_open V) s t ls → O t h.right
          → starts set (head (ls ++ (h.right ++ rest))) ≡ true
      by_turns t ls (stop _) k = begins s h.right rest k
      by_turns t ls (turn _ next _ us vs one others) k =
          ap (λ ws. starts set (head ws)) (append_assoc us vs (h.right ++ rest))
          ∙ is_wide.goes_on s next us (vs ++ (h.right ++ rest)) one.1
