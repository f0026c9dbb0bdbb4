-- What code leaves, put together, and what of that the finished function has.
use Rattle.std.proofs.Common.{◌≡◌, ℕ, ◌<◌, ◌≤◌, ◌⊎◌, inl, inr, false}
use Rattle.std.proofs.Common.{List, [], ◌∷◌, ◌++◌, length, refl, ap, sym, ◌∙◌, subst, arith}
use Rattle.std.proofs.Common.{append_assoc, append-nil}
use Rattle.std.specs.Prelude.{◌≢◌, Ok}
use Rattle.sw_graph.specs.declared.function.Function.{Function}
use Rattle.sw_graph.specs.declared.instr.Block.{Block}
use Rattle.sw_lower_plans.specs.Plan.{Numbers, var_in, written_in}
use Rattle.sw_lower_plans.specs.Run.{IsGoing, Making, instrs_at, place_of}
use Rattle.sw_lower_plans.specs.declared.bound.Bound.{Bound}
use Rattle.sw_lower_code.specs.Code.{Code}
use Rattle.sw_lower_run_facts.specs.Apart.{CodeApart}
use Rattle.sw_lower_run_facts.proofs.Runs.{grew, left_alone, made_of}
use Rattle.sw_spots.specs.Making.{AreBelow, Grows, IsFinal, IsReady, IsSame, Went, WentIn}
use Rattle.sw_spots.specs.Spots.{Spot}

-- blocks that are the same
pub same_none : (b : ℕ) (blocks : List Block) → IsSame b blocks blocks
same_none b blocks = record { instrs = refl; ends = refl }

pub same_both : (b : ℕ) (one two three : List Block) → IsSame b one two → IsSame b two three
    → IsSame b one three
same_both b one two three first second = record {
  instrs = second.instrs ∙ first.instrs;
  ends = second.ends ∙ first.ends;
}

pub grows_none : (b : ℕ) (blocks : List Block) → Grows b blocks blocks
grows_none b blocks = ([], sym (append-nil (instrs_at b blocks)))

pub grows_same : (b : ℕ) (one two : List Block) → instrs_at b two ≡ instrs_at b one
    → Grows b one two
grows_same b one two same = ([], same ∙ sym (append-nil (instrs_at b one)))

pub grows_both : (b : ℕ) (one two three : List Block) → Grows b one two → Grows b two three
    → Grows b one three
grows_both b one two three first second = (
  first.0 ++ second.0,
  second.1 ∙ ap (λ list. list ++ second.0) first.1
      ∙ append_assoc (instrs_at b one) first.0 second.0,
)

-- nothing was made
pub went_none : (Own : ℕ → Type 0) (s : Making) → Own s.here → IsGoing s → s.over ≡ false
    → WentIn Own s s
went_none Own s own going fits = record {
  fits = fits;
  going = going;
  number = refl;
  regs = omega arith;
  blocks = omega arith;
  there = inl own;
  grows = λ b. grows_none b s.made.blocks;
  same = λ b below other. same_none b s.made.blocks;
}

pub went_code : {A : Type 0} (code : Code A) (s t : Making) (value : A) → CodeApart code
    → IsGoing s → t.over ≡ false → code.run s ≡ Ok (value, t) → Went s t
went_code code s t value apart going fits ran =
    let g = grew code s t value going ran in
    let m = (made_of code s t value going ran).1 in
    let alone = left_alone code s t value apart going ran in
    record {
      fits = g.before fits;
      going = g.going;
      number = g.number;
      regs = g.regs;
      blocks = g.blocks;
      there = alone.there;
      grows = λ b. (written_in b (code.plan (place_of s)).writes, m.instrs fits b);
      same = λ b below other. record {
        instrs = alone.instrs fits b below other;
        ends = alone.lasts b below other;
      };
    }

-- The second piece of code may have blocks of its own that were made before it.
pub went_in_both : (Own Other : ℕ → Type 0) (s m t : Making) → WentIn Own s m → WentIn Other m t
    → ((b : ℕ) → Other b → Own b ⊎ (length s.made.blocks ≤ b)) → WentIn Own s t
went_in_both Own Other s m t one two within = record {
  fits = one.fits;
  going = two.going;
  number = two.number ∙ one.number;
  regs = (let a = one.regs in let b = two.regs in omega (arith, a, b));
  blocks = (let a = one.blocks in let b = two.blocks in omega (arith, a, b));
  there = there two.there;
  grows = λ b. grows_both b s.made.blocks m.made.blocks t.made.blocks (one.grows b) (two.grows b);
  same = λ b below other.
      let more = one.blocks in
      same_both b s.made.blocks m.made.blocks t.made.blocks (one.same b below other)
      (two.same b (omega (arith, below, more)) (λ own. neither b below other (within b own)));
} where
  there : Other t.here ⊎ (length m.made.blocks ≤ t.here)
      → Own t.here ⊎ (length s.made.blocks ≤ t.here)
  there (inl own) = within t.here own
  there (inr above) = inr (let more = one.blocks in omega (arith, above, more))

  neither : (b : ℕ) → b < length s.made.blocks → (Own b → ⊥)
      → Own b ⊎ (length s.made.blocks ≤ b) → ⊥
  neither b below other (inl own) = other own
  neither b below other (inr above) = omega (arith, below, above)

-- the block that goes on is one of these
pub one_of_own : (Own : ℕ → Type 0) (s m : Making) (b : ℕ) → WentIn Own s m → b ≡ m.here
    → Own b ⊎ (length s.made.blocks ≤ b)
one_of_own Own s m b went same =
    subst (λ n. Own n ⊎ (length s.made.blocks ≤ n)) (sym same) went.there

pub went_both : (Own : ℕ → Type 0) (s m t : Making) → WentIn Own s m → Went m t
    → WentIn Own s t
went_both Own s m t one two =
    went_in_both Own (λ b. b ≡ m.here) s m t one two (λ b same. one_of_own Own s m b one same)

-- other blocks of the first piece of code than the one that goes on are no own ones of the second
pub other_after : (s m : Making) (b : ℕ) → Went s m → b < length s.made.blocks → b ≢ s.here
    → b ≢ m.here
other_after s m b went below other same =
    by (one_of_own (λ n. n ≡ s.here) s m b went same) where
      by : (b ≡ s.here) ⊎ (length s.made.blocks ≤ b) → ⊥
      by (inl own) = other own
      by (inr above) = omega (arith, below, above)

-- of two pieces of code, what the first made and what the second made is final
pub final_first : (f : Function) (s m t : Making) → Went m t → IsFinal f s t → IsFinal f s m
final_first f s m t two final = record {
  regs = (let a = two.regs in let b = final.regs in omega (arith, a, b));
  blocks = (let a = two.blocks in let b = final.blocks in omega (arith, a, b));
  grows = λ b. grows_both b m.made.blocks t.made.blocks f.blocks (two.grows b) (final.grows b);
  ended = λ b own below other.
      let more = two.blocks in
      same_both b m.made.blocks t.made.blocks f.blocks (two.same b below other)
      (final.ended b own (omega (arith, below, more)) (other_after m t b two below other));
}

pub final_last : (f : Function) (s m t : Making) → Went s m → IsFinal f s t → IsFinal f m t
final_last f s m t one final = record {
  regs = final.regs;
  blocks = final.blocks;
  grows = final.grows;
  ended = λ b own below other. final.ended b (by b own) below other;
} where
  by : (b : ℕ) → (b ≡ m.here) ⊎ (length m.made.blocks ≤ b)
      → (b ≡ s.here) ⊎ (length s.made.blocks ≤ b)
  by b (inl same) = one_of_own (λ n. n ≡ s.here) s m b one same
  by b (inr above) = inr (let more = one.blocks in omega (arith, above, more))

-- spots that are the same
pub same_spot : (b c i j : ℕ) (vars more : List Bound) (temps others : List ℕ) → b ≡ c → i ≡ j
    → vars ≡ more → temps ≡ others
    → (let one : Spot = record { block = b; index = i; vars = vars; temps = temps } in one)
    ≡ record { block = c; index = j; vars = more; temps = others }
same_spot b c i j vars more temps others blocks indexes seen regs =
    ap (λ (n : ℕ). record { block = n; index = i; vars = vars; temps = temps }) blocks
    ∙ ap (λ (n : ℕ). record { block = c; index = n; vars = vars; temps = temps }) indexes
    ∙ ap (λ (v : List Bound). record { block = c; index = j; vars = v; temps = temps }) seen
    ∙ ap (λ (r : List ℕ). record { block = c; index = j; vars = more; temps = r }) regs

-- registers
pub below_more : (few many : ℕ) (temps : List ℕ) → few ≤ many → AreBelow few temps
    → AreBelow many temps
below_more few many [] less all = tt
below_more few many (r ∷ temps) less all =
    ((let one = all.0 in omega (arith, less, one)), below_more few many temps less all.1)

pub below_rest : (count : ℕ) (some temps : List ℕ) → AreBelow count (some ++ temps)
    → AreBelow count temps
below_rest count [] temps all = all
below_rest count (r ∷ some) temps all = below_rest count some temps all.1

module _ (numbers : Numbers) where
  -- ready with other temporaries
  pub ready_with : (s : Making) (temps others : List ℕ) → IsReady numbers s temps
      → AreBelow (length s.made.regs) others → IsReady numbers s others
  ready_with s temps others ready below = record {
    going = ready.going;
    number = ready.number;
    temporaries = below;
    variables = ready.variables;
    apart = ready.apart;
  }

  -- ready later, with the same variables
  pub ready_later : (s t : Making) (temps others : List ℕ) → IsReady numbers s temps → Went s t
      → t.vars ≡ s.vars → AreBelow (length t.made.regs) others → IsReady numbers t others
  ready_later s t temps others ready went vars below = record {
    going = went.going;
    number = went.number ∙ ready.number;
    temporaries = below;
    variables = λ key bound is.
        let less = ready.variables key bound (ap (var_in key) (sym vars) ∙ is) in
        let more = went.regs in
        omega (arith, less, more);
    apart = λ key other bound one is found. ready.apart key other bound one
        (ap (var_in key) (sym vars) ∙ is) (ap (var_in other) (sym vars) ∙ found);
  }
