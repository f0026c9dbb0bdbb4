-- Safe code, where it runs in a function of a body: its value is in a register of its type.
use Rattle.std.proofs.Common.{◌≡◌, ◌≢◌, ℕ, zero, suc, ◌+◌, ◌-◌, ◌<◌, Bool, true, false, inl, List}
use Rattle.std.proofs.Common.{[], ◌∷◌, ◌++◌, length, replicate, map, Some, ap, sym, ◌∙◌, refl}
use Rattle.std.proofs.Common.{arith, append-nil, true≢false}
use Rattle.std.proofs.lemmas.List.{length-replicate}
use Rattle.std.proofs.lemmas.Option.{slice_get_within}
use Rattle.std.specs.Prelude.{Ok, ◌==◌, if◌then◌else◌, slice_get}
use Rattle.sw_types.specs.declared.ty.Ty.TheVariants as types
use Rattle.sw_graph.specs.declared.instr.Block.{Block}
use Rattle.sw_graph.specs.declared.instr.Instr.{Instr}
use Rattle.sw_graph.specs.declared.instr.Operand.{Operand}
use Rattle.sw_typing_rules.specs.Expressions.{Judged}
use Rattle.sw_lower_plans.specs.Plan.{Anywhere, NewBlock, Piece, Written, written_in}
use Rattle.sw_lower_plans.specs.Run.{Making, instrs_at, place_of}
use Rattle.sw_lower_plans.specs.declared.bound.Bound.{Bound}
use Rattle.sw_lower_plans.proofs.BlockFacts.{written_both}
use Rattle.sw_lower_code.specs.Code.{Code}
use Rattle.sw_lower_rules.specs.Bodies.{global_kind}
use Rattle.sw_lower_rules.specs.Carriers.{ExprCode}
use Rattle.sw_lower_formed_facts.specs.Forms.{BodiesFit, ExprOk, Wherever}
use Rattle.sw_lower_formed_facts.specs.Ground.{IsOfGraph, IsSeen, Knows, kind_by}
use Rattle.sw_lower_formed_facts.specs.Safe.{IsIn, Position, SafeAt, IsAsPlanned, ValueAfter, moved}
use Rattle.sw_lower_formed_facts.specs.Whole.{Whole, taken}
use Rattle.sw_lower_placed_facts.specs.Allowed.{RegisterHasType}
use Rattle.sw_lower_placed_facts.specs.Placing.{IsKnown, PlacesAt, Stood}
use Rattle.sw_lower_placed_facts.specs.Hosts.{Program, Host}
use Rattle.sw_lower_placed_facts.proofs.Placing.Joining.{made_by_run, ran_later}
use Rattle.sw_lower_placed_facts.proofs.Placing.Later.{reg_later}

-- the instructions of a block with a number
abbrev in_one : ℕ → List Instr → List Written
in_one number instrs = map (λ instr. record { block = number; instr = instr }) instrs

-- the instructions of blocks, the first of which has a number
abbrev in_all : ℕ → List Block → List Written
in_all first [] = []
in_all first (block ∷ blocks) = in_one first block.instrs ++ in_all (first + 1) blocks

-- The instructions of one block are those of that block,
one_same : (number : ℕ) (instrs : List Instr) → written_in number (in_one number instrs) ≡ instrs
one_same number [] = refl
one_same number (instr ∷ instrs) = by (number == number) refl (one_same number instrs) where
  by : (same : Bool) → (number == number) ≡ same
      → written_in number (in_one number instrs) ≡ instrs
      → (if same then instr ∷ written_in number (in_one number instrs)
      else written_in number (in_one number instrs)) ≡ instr ∷ instrs
  by true is rest = ap (λ all. instr ∷ all) rest
  by false is rest = absurd (true≢false (grind (arith, is)))

-- and of no other.
one_other : (number other : ℕ) (instrs : List Instr) → number ≢ other
    → written_in other (in_one number instrs) ≡ []
one_other number other [] apart = refl
one_other number other (instr ∷ instrs) apart =
    by (number == other) refl (one_other number other instrs apart) where
      by : (same : Bool) → (number == other) ≡ same
          → written_in other (in_one number instrs) ≡ []
          → (if same then instr ∷ written_in other (in_one number instrs)
          else written_in other (in_one number instrs)) ≡ []
      by true is rest = absurd (apart (grind (arith, is)))
      by false is rest = rest

none_before : (first number : ℕ) (blocks : List Block) → number < first
    → written_in number (in_all first blocks) ≡ []
none_before first number [] below = refl
none_before first number (block ∷ blocks) below =
    written_both number (in_one first block.instrs) (in_all (first + 1) blocks)
    ∙ ap (λ instrs. instrs ++ written_in number (in_all (first + 1) blocks))
    (one_other first number block.instrs (λ same. omega (arith, below, same)))
    ∙ none_before (first + 1) number blocks (omega (arith, below))

-- The instructions of all blocks are those of each.
all_written : (first number : ℕ) (blocks : List Block)
    → instrs_at number blocks ≡ written_in (first + number) (in_all first blocks)
unfolding instrs_at
all_written first number [] = refl
all_written first zero (block ∷ blocks) =
    sym (ap (λ at. written_in at (in_all first (block ∷ blocks))) (omega arith)
    ∙ (written_both first (in_one first block.instrs) (in_all (first + 1) blocks)
    ∙ (ap (λ instrs. instrs ++ written_in first (in_all (first + 1) blocks))
    (one_same first block.instrs)
    ∙ (ap (λ rest. block.instrs ++ rest)
    (none_before (first + 1) first blocks (omega arith))
    ∙ append-nil block.instrs))))
all_written first (suc number) (block ∷ blocks) =
    all_written (first + 1) number blocks
    ∙ (ap (λ at. written_in at (in_all (first + 1) blocks)) (omega arith)
    ∙ sym (written_both (first + suc number) (in_one first block.instrs)
    (in_all (first + 1) blocks)
    ∙ ap (λ instrs. instrs ++ written_in (first + suc number) (in_all (first + 1) blocks))
    (one_other first (first + suc number) block.instrs (λ same. omega (arith, same)))))

any_block : NewBlock
any_block = record { entry = Anywhere; from = 0 }

-- a function, as if its plan had made what it has
position_of : Making → Position
position_of s = record {
  making = s;
  made = replicate (length s.made.blocks - 1) any_block;
  writes = in_all 0 s.made.blocks;
}

module _ (program : Program) (host : Host) where
  -- a whole function that takes all its registers, and is made by a piece of code
  whole_by : {A : Type 0} → Making → Piece A → Making → Whole
  whole_by s piece t = record {
    shapes = program.tables.world.shapes;
    globals = map global_kind program.tables.world.globals;
    functions = program.functions;
    takes = length t.made.regs;
    result = types.Unit;
    regs = t.made.regs;
    made = (position_of s).made ++ piece.made;
    writes = (position_of s).writes ++ piece.writes;
  }

  -- Safe code is safe in a function of the body, and what was claimed holds in a whole function.
  pub safe_somewhere : {A : Type 0} (code : Code A)
      (Post : Whole → Position → A → Position → Type 0)
      → Wherever program.tables program.numbers program.functions host.owner
      (λ w p. SafeAt w p code (Post w p))
      → (s t : Making) (value : A) → Stood program host s → code.run s ≡ Ok (value, t)
      → t.over ≡ false
      → (w : Whole) × (p q : Position) × (w.regs ≡ t.made.regs) × (q.making ≡ t)
      × Post w p value q
  unfolding position_of whole_by
  safe_somewhere {A} code Post safe s t value stood ran fits = (
    w,
    p,
    moved p piece t,
    refl,
    refl,
    (safe w of p knows stands value t ran fits inside).1,
  ) where
    piece : Piece A
    piece = code.plan (place_of s)

    p : Position
    p = position_of s

    w : Whole
    w = whole_by s piece t

    of : IsOfGraph program.tables program.functions w
    of = record { shapes = refl; globals = refl; functions_are = refl }

    stands : IsAsPlanned p
    stands = record {
      going = stood.going;
      fits = (made_by_run code s t value stood.going ran).before fits;
      blocks = omega (
        arith,
        stood.going,
        length-replicate (length s.made.blocks - 1) any_block,
      );
      instrs = λ number. all_written 0 number s.made.blocks
          ∙ ap (λ at. written_in at (in_all 0 s.made.blocks)) (omega arith);
    }

    seen : (bound : Bound) → IsKnown program host s.made.regs bound
        → IsSeen program.tables host.owner w p bound
    seen bound known = record {
      ty = known.ty;
      typed = known.typed;
      kind = kind;
      set = inl (taken s.here bound.reg (slice_get_within t.made.regs bound.reg _ kind));
      made = slice_get_within s.made.regs bound.reg _ known.kind;
    } where
      kind : slice_get t.made.regs bound.reg ≡ Some (kind_by bound.boxed known.ty)
      kind = reg_later s t bound.reg (kind_by bound.boxed known.ty)
          (ran_later code s t value stood.going ran) known.kind

    knows : Knows program.tables host.owner program.numbers w p
    knows = record {
      vars = λ k d below. seen _ (stood.known k d below);
      numbers = stood.numbers;
    }

    inside : IsIn w (moved p piece t)
    inside = record {
      regs = ([], sym (append-nil t.made.regs));
      made = ([], sym (append-nil (p.made ++ piece.made)));
      writes = ([], sym (append-nil (p.writes ++ piece.writes)));
    }

  -- The value of an expression is in a register of its type.
  pub value_kind : (code : ExprCode) (judged : Judged)
      → (ok : ExprOk program.tables program.numbers program.functions host.owner code judged)
      → (s t : Making) (x : Operand) → Stood program host s → code.read.run s ≡ Ok (x, t)
      → t.over ≡ false → RegisterHasType t.made.regs x.reg ok.ty
  value_kind code judged ok s t x stood ran fits =
      let (w, p, q, regs, making, post) =
      safe_somewhere code.read (λ w p x q. ValueAfter w p ok.ty x q
      × BodiesFit program.tables program.numbers program.functions code.inside) ok.read s t x stood
      ran fits in
      ap (λ list. slice_get list x.reg) (sym regs) ∙ post.0.0.kind

-- and beside what else is claimed of it
pub places_value : {program : Program} {host : Host} (code : ExprCode) (judged : Judged)
    (ok : ExprOk program.tables program.numbers program.functions host.owner code judged)
    (s : Making) (Post : Operand → Making → Type 0) → PlacesAt program host s code.read Post
    → PlacesAt program host s code.read (λ x t. RegisterHasType t.made.regs x.reg ok.ty × Post x t)
places_value {program} {host} code judged ok s Post places stood x t ran fits =
    let got = places stood x t ran fits in
    (got.0, (value_kind program host code judged ok s t x stood ran fits, got.1))
