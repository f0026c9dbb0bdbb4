-- Code that ends a block and goes on in another, and blocks that wait for that.
use Rattle.std.proofs.Common.{◌≡◌, ℕ, suc, ◌<◌, ◌≤◌, ◌⊎◌, inl, inr, false, List, [], ◌∷◌}
use Rattle.std.proofs.Common.{◌++◌, length, refl, ap, sym, ◌∙◌, subst, arith, append_assoc}
use Rattle.std.specs.Prelude.{◌≢◌, Ok}
use Rattle.sw_graph.specs.declared.function.Function.{Function}
use Rattle.sw_graph.specs.declared.instr.Last.{Last}
use Rattle.sw_lower_plans.specs.Plan.{Anywhere, Entry}
use Rattle.sw_lower_plans.specs.Run.{IsGoing, Making, instrs_at}
use Rattle.sw_lower_plans.specs.declared.bound.Bound.{Bound}
use Rattle.sw_lower_code.specs.Code.{block_for, close, resume}
use Rattle.sw_lower_run_facts.specs.Made.{MadeBlock, index}
use Rattle.sw_lower_run_facts.proofs.Alone.{block_apart}
use Rattle.sw_lower_run_facts.proofs.Runs.{grew}
use Rattle.sw_lower_run_facts.proofs.Steps.{block_ran, close_ran, resume_ran}
use Rattle.sw_spots.specs.Making.{ArePending, IsFinal, IsOne, IsSame, Turned, Went, WentIn, spot_of}
use Rattle.sw_spots.specs.Spots.{IsEnd, starts}
use Rattle.sw_spots.proofs.Going.{grows_same, one_of_own, other_after, same_both, same_spot}
use Rattle.sw_spots.proofs.Going.{went_both, went_code, went_in_both}

pub turned : (how : Last) (next : ℕ) (s m t : Making) (one two : Unit {0}) → IsGoing s
    → (close how).run s ≡ Ok (one, m) → (resume next).run m ≡ Ok (two, t) → Turned s how next t
turned how next s m t one two going first second =
    let c = close_ran how s m one going first in
    let r = resume_ran next m t two second in
    subst (Turned s how next) (sym r.is) (record {
      made = (let less = r.made in let count = c.count in omega (arith, less, count));
      here = refl;
      vars = c.vars;
      over = c.over;
      number = (grew (close how) s m one going first).number;
      regs = c.regs;
      count = c.count;
      instrs = c.instrs;
      lasts = c.lasts;
      ended = c.ended;
    })

pub turned_going : (s t : Making) (how : Last) (next : ℕ) → Turned s how next t → IsGoing t
turned_going s t how next turn =
    let made = turn.made in let here = turn.here in let count = turn.count in
    omega (arith, made, here, count)

-- Where a block ended and another goes on, these two are own ones.
turn_went : (s t : Making) (how : Last) (next : ℕ) → Turned s how next t → s.over ≡ false
    → WentIn (λ b. (b ≡ s.here) ⊎ (b ≡ next)) s t
turn_went s t how next turn fits = record {
  fits = fits;
  going = turned_going s t how next turn;
  number = turn.number;
  regs = (let same = ap length turn.regs in omega (arith, same));
  blocks = (let same = turn.count in omega (arith, same));
  there = inl (inr turn.here);
  grows = λ b. grows_same b s.made.blocks t.made.blocks (turn.instrs b);
  same = λ b below other. record {
    instrs = turn.instrs b;
    ends = turn.lasts b (λ same. other (inl same));
  };
}

pub went_turned : (Own : ℕ → Type 0) (s m t : Making) (how : Last) (next : ℕ) → WentIn Own s m
    → Turned m how next t → m.over ≡ false → Own next ⊎ (length s.made.blocks ≤ next)
    → WentIn Own s t
went_turned Own s m t how next went turn fits own =
    went_in_both Own (λ b. (b ≡ m.here) ⊎ (b ≡ next)) s m t went (turn_went m t how next turn fits) by
  where
    by : (b : ℕ) → (b ≡ m.here) ⊎ (b ≡ next) → Own b ⊎ (length s.made.blocks ≤ b)
    by b (inl same) = subst (λ n. Own n ⊎ (length s.made.blocks ≤ n)) (sym same) went.there
    by b (inr same) = subst (λ n. Own n ⊎ (length s.made.blocks ≤ n)) (sym same) own

-- Code leaves blocks alone that wait.
pub pending_after : (Pending : ℕ → Type 0) (s t : Making) → ArePending Pending s → Went s t
    → ArePending Pending t
pending_after Pending s t are went = record {
  apart = λ b one. other_after s t b went (are.below b one) (are.apart b one);
  below = λ b one. let less = are.below b one in let more = went.blocks in omega (arith, less, more);
  empty = λ b one. (went.same b (are.below b one) (are.apart b one)).instrs ∙ are.empty b one;
}

pub pending_turned : (Pending Later : ℕ → Type 0) (s t : Making) (how : Last) (next : ℕ)
    → ArePending Pending s → Turned s how next t → ((b : ℕ) → Later b → Pending b)
    → ((b : ℕ) → Later b → b ≢ next) → ArePending Later t
pending_turned Pending Later s t how next are turn fewer other = record {
  apart = λ b one same. other b one (same ∙ turn.here);
  below = λ b one. let less = are.below b (fewer b one) in let same = turn.count in
      omega (arith, less, same);
  empty = λ b one. turn.instrs b ∙ are.empty b (fewer b one);
}

-- A block that waited goes on at its first spot.
pub starts_turned : (Pending : ℕ → Type 0) (s t : Making) (how : Last) (next : ℕ) (temps : List ℕ)
    → ArePending Pending s → Turned s how next t → Pending next
    → spot_of t temps ≡ starts next s.vars temps
starts_turned Pending s t how next temps are turn one =
    same_spot t.here next (index t) 0 t.vars s.vars temps temps turn.here
    (ap (λ b. length (instrs_at b t.made.blocks)) turn.here
    ∙ ap length (turn.instrs next ∙ are.empty next one)) turn.vars refl

-- blocks that were made
pub went_block : (entry : Entry) (s t : Making) (made : ℕ) → IsGoing s → t.over ≡ false
    → (block_for entry).run s ≡ Ok (made, t) → Went s t
went_block entry s t made going fits ran =
    went_code (block_for entry) s t made (λ count own. block_apart count own entry) going fits ran

pub pending_none : (s : Making) → ArePending (IsOne []) s
pending_none s = record {
  apart = λ b one. absurd one;
  below = λ b one. absurd one;
  empty = λ b one. absurd one;
}

pub pending_made : (waits : List ℕ) (s t : Making) (made : ℕ) → IsGoing s
    → ArePending (IsOne waits) s → MadeBlock s made t → ArePending (IsOne (made ∷ waits)) t
pending_made waits s t made going are is = record {
  apart = λ b one same. apart b one (same ∙ is.here);
  below = below;
  empty = empty;
} where
  apart : (b : ℕ) → (b ≡ made) ⊎ IsOne waits b → b ≢ s.here
  apart b (inl new) same = let number = is.number in omega (arith, new, same, number, going)
  apart b (inr one) same = are.apart b one same

  below : (b : ℕ) → (b ≡ made) ⊎ IsOne waits b → b < length t.made.blocks
  below b (inl new) = let number = is.number in let count = is.count in
      omega (arith, new, number, count)
  below b (inr one) = let less = are.below b one in let count = is.count in
      omega (arith, less, count)

  empty : (b : ℕ) → (b ≡ made) ⊎ IsOne waits b → instrs_at b t.made.blocks ≡ []
  empty b (inl new) = ap (λ n. instrs_at n t.made.blocks) new ∙ is.empty
  empty b (inr one) = is.instrs b ∙ are.empty b one

-- the spot stays where a block is made
pub spot_made : (s t : Making) (made : ℕ) (temps : List ℕ) → MadeBlock s made t
    → spot_of t temps ≡ spot_of s temps
spot_made s t made temps is =
    same_spot t.here s.here (index t) (index s) t.vars s.vars temps temps is.here
    (ap (λ b. length (instrs_at b t.made.blocks)) is.here ∙ ap length (is.instrs s.here)) is.vars refl

-- Three blocks were made after each other.
pub record Three (s t : Making) (one two three : ℕ) : Type 0 where
  pub went : Went s t
  pub vars : t.vars ≡ s.vars
  pub spot : (temps : List ℕ) → spot_of t temps ≡ spot_of s temps
  pub regs : length t.made.regs ≡ length s.made.regs
  pub pending : ArePending (IsOne (three ∷ two ∷ one ∷ [])) t
  pub first : one ≡ length s.made.blocks
  pub second : two ≡ suc one
  pub third : three ≡ suc two

pub three_made : (s a b t : Making) (one two three : ℕ) → IsGoing s → t.over ≡ false
    → (block_for Anywhere).run s ≡ Ok (one, a) → (block_for Anywhere).run a ≡ Ok (two, b)
    → (block_for Anywhere).run b ≡ Ok (three, t) → Three s t one two three
three_made s a b t one two three going fits ran_one ran_two ran_three =
    let x = block_ran Anywhere s a one ran_one in
    let y = block_ran Anywhere a b two ran_two in
    let z = block_ran Anywhere b t three ran_three in
    let going_a : IsGoing a = (let h = x.here in let c = x.count in omega (arith, h, c, going)) in
    let going_b : IsGoing b = (let h = y.here in let c = y.count in omega (arith, h, c, going_a)) in
    let fits_b : b.over ≡ false = sym z.over ∙ fits in
    let fits_a : a.over ≡ false = sym y.over ∙ fits_b in
    record {
      went = went_both (λ n. n ≡ s.here) s b t
          (went_both (λ n. n ≡ s.here) s a b (went_block Anywhere s a one going fits_a ran_one)
          (went_block Anywhere a b two going_a fits_b ran_two))
          (went_block Anywhere b t three going_b fits ran_three);
      vars = z.vars ∙ y.vars ∙ x.vars;
      spot = λ temps. spot_made b t three temps z ∙ spot_made a b two temps y
          ∙ spot_made s a one temps x;
      regs = ap length (z.regs ∙ y.regs ∙ x.regs);
      pending = pending_made (two ∷ one ∷ []) b t three going_b
          (pending_made (one ∷ []) a b two going_a
          (pending_made [] s a one going (pending_none s) x) y) z;
      first = x.number;
      second = (let c = x.count in let m = x.number in let n = y.number in omega (arith, c, m, n));
      third = (let c = y.count in let m = y.number in let n = z.number in omega (arith, c, m, n));
    }

-- Of code from s to m, after which a block ends, what was made is final, and so is the end, if all
-- that goes on later goes on in blocks that waited at s, and in new ones.
pub record Ended (f : Function) (s m : Making) (how : Last) : Type 0 where
  pub final : IsFinal f s m
  pub ends : (vars : List Bound) (temps : List ℕ)
      → IsEnd f (record (spot_of m temps) { vars = vars }) how

pub ended_by : (Pending : ℕ → Type 0) (f : Function) (s m u t : Making) (how : Last) (next : ℕ)
    → ArePending Pending s → Went s m → Turned m how next u → WentIn Pending u t → IsFinal f s t
    → Ended f s m how
ended_by Pending f s m u t how next are went turn later final = record {
  final = record {
    regs = (let a = later.regs in let b = final.regs in let c = ap length turn.regs in
        omega (arith, a, b, c));
    blocks = (let a = later.blocks in let b = final.blocks in let c = turn.count in
        omega (arith, a, b, c));
    grows = λ b.
        let a = later.grows b in
        let g = final.grows b in (
          a.0 ++ g.0,
          g.1 ∙ ap (λ list. list ++ g.0) (a.1 ∙ ap (λ list. list ++ a.0) (turn.instrs b))
              ∙ append_assoc (instrs_at b m.made.blocks) a.0 g.0,
        );
    ended = λ b own below other.
        same_both b m.made.blocks u.made.blocks f.blocks
        (record { instrs = turn.instrs b; ends = turn.lasts b other }) (rest b own below);
  };
  ends = λ vars temps.
      let own = one_of_own (λ b. b ≡ s.here) s m m.here went refl in
      let same = rest m.here own went.going in
      record {
        within = (let a = went.going in let b = later.blocks in let c = final.blocks in
            let d = turn.count in omega (arith, a, b, c, d));
        index = ap length (sym (same.instrs ∙ turn.instrs m.here));
        ends = same.ends ∙ turn.ended;
      };
} where
  waits : (b : ℕ) → (b ≡ s.here) ⊎ (length s.made.blocks ≤ b) → Pending b → ⊥
  waits b (inl same) one = are.apart b one same
  waits b (inr above) one = let less = are.below b one in omega (arith, less, above)

  apart : (b : ℕ) → (Pending b → ⊥) → b < length u.made.blocks
      → Pending t.here ⊎ (length u.made.blocks ≤ t.here) → b ≢ t.here
  apart b none below (inl one) same = none (subst Pending (sym same) one)
  apart b none below (inr above) same = omega (arith, below, above, same)

  rest : (b : ℕ) → (b ≡ s.here) ⊎ (length s.made.blocks ≤ b) → b < length m.made.blocks
      → IsSame b u.made.blocks f.blocks
  rest b own below =
      let count = turn.count in
      let more = later.blocks in
      let inside : b < length u.made.blocks = omega (arith, below, count) in
      same_both b u.made.blocks t.made.blocks f.blocks (later.same b inside (waits b own))
      (final.ended b own (omega (arith, inside, more)) (apart b (waits b own) inside later.there))
