-- Each single step of code is safe where what it makes fits.
use Rattle.std.proofs.Common.{◌≡◌, ℕ, suc, ◌+◌, inl, inr, List, [], ◌∷◌, ◌++◌, length, ap, sym, ◌∙◌}
use Rattle.std.proofs.Common.{subst, refl, arith, append_assoc, append-nil, length-append, Bool}
use Rattle.std.proofs.Common.{true, false, Option, Some, None, true≢false}
use Rattle.std.proofs.Math.Seq.{take-append_seam}
use Rattle.std.proofs.lemmas.List.Elements.{All-cons, All-nil}
use Rattle.std.specs.Prelude.{Result, Ok, Err, IsTrue, ◌||◌, ◌&&◌, ◌==◌, slice_get, not, take}
use Rattle.std.specs.List.{list_all}
use Rattle.std.specs.Option.{unwrap_or}
use Rattle.std.specs.Prelude.{if◌then◌else◌}
use Rattle.std.proofs.lemmas.Option.{same_Some}
use Rattle.sw_graph.specs.Mentions.{set_by}
use Rattle.sw_graph.specs.Payloads.{is_payload}
use Rattle.sw_graph.specs.Ways.{is_number}
use Rattle.sw_graph.specs.declared.function.RegKind.{RegKind}
use Rattle.sw_graph.specs.declared.instr.Block.{Block}
use Rattle.sw_graph.specs.declared.instr.Instr.{Instr}
use Rattle.sw_graph.specs.declared.instr.Last.{Last}
use Rattle.sw_list.proofs.ListLemmas.{slice_get_after}
use Rattle.sw_lower_plans.specs.Plan.{Ended, Entry, NewBlock, Piece, Written, nothing, plan_scope}
use Rattle.sw_lower_plans.specs.Plan.{plan_block, plan_close, plan_emit, var_in, written_in}
use Rattle.sw_lower_plans.specs.Run.{Making, Makes, payloads_alone, place_of, run_emit, instrs_at}
use Rattle.sw_lower_plans.specs.Run.{instrs_of, run_front, run_known, with_vars}
use Rattle.sw_lower_plans.specs.declared.bound.Bound.{Bound}
use Rattle.sw_lower_plans.specs.declared.name.FunctionName.{FunctionName}
use Rattle.sw_lower_plans.specs.declared.fault.CodeFault.{CodeFault}
use Rattle.sw_lower_plans.specs.declared.fault.CodeFault.TheVariants.{Missing}
use Rattle.sw_lower_plans.proofs.BlockFacts.{written_both}
use Rattle.sw_lower_code.specs.Code.{Code, bind, block_for, close, done, emit, front, known, number}
use Rattle.sw_lower_code.specs.Code.{no_var, reg, resume, scope, var}
use Rattle.sw_lower_formed_facts.specs.Fitting.{InstrOk, IsKind, LastOk, PieceOk}
use Rattle.sw_lower_formed_facts.specs.Safe.{MadeLast, Emitted, IsStart, Keeps, MadeBlock, MadeReg, Named}
use Rattle.sw_lower_formed_facts.specs.Safe.{Position, Resumed, SafeAt, here, moved, seeing}
use Rattle.sw_lower_formed_facts.specs.Whole.{AtEnd, AtStart, IsSet, Whole, before, made_at, set_before}
use Rattle.sw_lower_formed_facts.specs.Whole.{sets, taken}
use Rattle.sw_lower_formed_facts.proofs.Positions.Then.{made_by, safe_by}

-- more instructions set more registers
sets_more : (xs ys : List Instr) (r : ℕ) → IsTrue (sets xs r) → IsTrue (sets (xs ++ ys) r)
sets_more [] ys r holds = cc
sets_more (x ∷ xs) ys r holds = by (is_number r (set_by x)) (sets_more xs ys r) holds where
  by : (now : Bool) → (IsTrue (sets xs r) → IsTrue (sets (xs ++ ys) r))
      → IsTrue (now || sets xs r) → IsTrue (now || sets (xs ++ ys) r)
  by true later holds = holds
  by false later holds = later holds

is_same : (r : ℕ) → IsTrue (r == r)
is_same r = grind arith

-- and so does the last of them
sets_last : (xs : List Instr) (instr : Instr) (r : ℕ) → set_by instr ≡ Some r
    → IsTrue (sets (xs ++ instr ∷ []) r)
sets_last [] instr r is =
    subst (λ set. IsTrue (is_number r set || false)) (sym is)
    (subst (λ holds. IsTrue (holds || false)) (sym (is_same r)) refl)
sets_last (x ∷ xs) instr r is = by (is_number r (set_by x)) (sets_last xs instr r is) where
  by : (now : Bool) → IsTrue (sets (xs ++ instr ∷ []) r)
      → IsTrue (now || sets (xs ++ instr ∷ []) r)
  by true later = refl
  by false later = later

-- what is set after some instructions is set after more
pub set_after : (w : Whole) (writes rest : List Written) (block r : ℕ) → IsSet w writes block r
    → IsSet w (writes ++ rest) block r
set_after w writes rest block r (inl start) = inl start
set_after w writes rest block r (inr holds) =
    inr (subst (λ instrs. IsTrue (sets instrs r)) (sym (written_both block writes rest))
    (sets_more (written_in block writes) (written_in block rest) r holds))

-- what is set at a position is set at the end of its block
pub set_at_end : (w : Whole) (writes : List Written) (block r : ℕ) → IsStart writes w.writes
    → IsSet w writes block r → AtEnd w block r
set_at_end w writes block r prefix holds =
    subst (λ all. IsSet w all block r) (sym prefix.1) (set_after w writes prefix.0 block r holds)

-- what is set at the end of the block that went on is set where a block begins
pub start_of : (w : Whole) (block r : ℕ) (one : NewBlock) → made_at w block ≡ Some one
    → AtEnd w one.from r → AtStart w block r
start_of w block r one made (inl start) = before block r one made start
start_of w block r one made (inr holds) = set_before block r one made holds

-- and nothing else is
pub end_of : (w : Whole) (block r : ℕ) (one : NewBlock) → made_at w block ≡ Some one
    → AtStart w block r → AtEnd w one.from r
end_of w block r one made (taken _ _ holds) = inl (taken one.from r holds)
end_of w block r one made (before _ _ other is start) =
    subst (λ x. AtEnd w x.from r) (same_Some other one (sym is ∙ made)) (inl start)
end_of w block r one made (set_before _ _ other is holds) =
    subst (λ x. AtEnd w x.from r) (same_Some other one (sym is ∙ made)) (inr holds)

abbrev last_ok : Whole → Ended → Type 0
last_ok w one = LastOk w one.block one.last

-- nothing was made
still : (w : Whole) (p q : Position) → q.making.here ≡ p.making.here
    → q.making.vars ≡ p.making.vars ++ [] → (added : List RegKind)
    → q.making.made.regs ≡ p.making.made.regs ++ added → (rest : List Written)
    → q.writes ≡ p.writes ++ rest → q.making.number ≡ p.making.number → Keeps w p q
still w p q there vars added regs rest writes same = record {
  follows = record {
    kept = λ r holds.
        subst (λ block. IsSet w q.writes block r) (sym there)
        (subst (λ all. IsSet w all (here p) r) (sym writes)
        (set_after w p.writes rest (here p) r holds));
    under = λ r holds. subst (λ block. AtEnd w block r) (sym there) holds;
    regs = omega (arith, ap length regs, length-append p.making.made.regs added);
    numbers = same;
  };
  vars = vars ∙ append-nil p.making.vars;
}

-- A register whose types are declared may be made.
pub safe_reg : (w : Whole) (p : Position) (kind : RegKind) → IsKind w kind
    → SafeAt w p (reg kind) (MadeReg w p kind)
unfolding reg
safe_reg w p kind within = safe_by w p (reg kind) (MadeReg w p kind) (λ t stands made inside. (
  record {
    kinds = All-cons (IsKind w) kind [] within (All-nil (IsKind w));
    writes = tt;
    lasts = All-nil (last_ok w);
  },
  record {
    kind = found t made.regs inside.regs;
    number = refl;
    below = omega (arith, ap length made.regs, length-append p.making.made.regs (kind ∷ []));
    keeps = still w p (record {
      making = t;
      made = p.made ++ [];
      writes = p.writes ++ [];
    }) made.here made.vars (kind ∷ []) made.regs [] refl made.number;
    there = made.here;
    writes = append-nil p.writes;
  },
)) where
  found : (t : Making) → t.made.regs ≡ p.making.made.regs ++ kind ∷ []
      → IsStart t.made.regs w.regs → slice_get w.regs (length p.making.made.regs) ≡ Some kind
  found t regs all =
      ap (λ list. slice_get list (length p.making.made.regs)) (all.1
      ∙ ap (λ list. list ++ all.0) regs
      ∙ append_assoc p.making.made.regs (kind ∷ []) all.0)
      ∙ ap (slice_get (p.making.made.regs ++ kind ∷ all.0)) (omega arith)
      ∙ slice_get_after p.making.made.regs (kind ∷ all.0) 0

abbrev pub gave : {A : Type 0} → A → Making → Result (A × Making) CodeFault
gave value t = Ok (value, t)

-- what a run gave, and the function after it, are one each
pub ended : {A : Type 0} (value : A) (making : Making) (given : A) (t : Making)
    → gave value making ≡ gave given t → (value ≡ given) × (making ≡ t)
ended {A} value making given t is =
    (ap (λ result. (of result).0) is, ap (λ result. (of result).1) is) where
      of : Result (A × Making) CodeFault → A × Making
      of (Ok at) = at
      of (Err fault) = (value, making)

-- Where nothing is made, the position stays.
stays : {A : Type 0} (w : Whole) (p : Position) (value : A) (Post : A → Position → Type 0)
    → Post value p → (given : A) (t : Making)
    → gave value p.making ≡ gave given t
    → PieceOk w p.writes (nothing value (place_of p.making))
    × Post given (moved p (nothing value (place_of p.making)) t)
stays {A} w p value Post post given t is = (
  record { kinds = All-nil (IsKind w); writes = tt; lasts = All-nil (last_ok w) },
  subst (λ q. Post given q) (same p t (ended value p.making given t is).1)
      (subst (λ v. Post v p) (ended value p.making given t is).0 post),
) where
  same : (p : Position) (t : Making) → p.making ≡ t
      → p ≡ record { making = t; made = p.made ++ []; writes = p.writes ++ [] }
  same p t is =
      ap (λ m. record { making = m; made = p.made; writes = p.writes }) is
      ∙ ap (λ made. record { making = t; made = made; writes = p.writes }) (sym (append-nil p.made))
      ∙ ap (λ writes. record { making = t; made = p.made ++ []; writes = writes })
      (sym (append-nil p.writes))

-- A value is given without a step.
pub safe_done : {A : Type 0} (w : Whole) (p : Position) (value : A) (Post : A → Position → Type 0)
    → Post value p → SafeAt w p (done value) Post
unfolding done
safe_done w p value Post post stands given t ran fits inside = stays w p value Post post given t ran

-- Something that is known is given without a step.
pub safe_known : {A : Type 0} (w : Whole) (p : Position) (fallback : A) (found : Option A)
    (Post : A → Position → Type 0) → ((value : A) → found ≡ Some value → Post value p)
    → SafeAt w p (known fallback found) Post
unfolding known
safe_known w p fallback None Post post stands given t ran fits inside = cc
safe_known w p fallback (Some value) Post post stands given t ran fits inside =
    stays w p value Post (post value refl) given t ran

-- a variable that is looked up
pub safe_var : (w : Whole) (p : Position) (key : ℕ) (Post : Bound → Position → Type 0)
    → ((bound : Bound) → var_in key p.making.vars ≡ Some bound → Post bound p)
    → SafeAt w p (var key) Post
unfolding var
safe_var w p key Post post stands given t ran fits inside =
    by (var_in key p.making.vars) refl ran where
      by : (found : Option Bound) → var_in key p.making.vars ≡ found
          → run_known found p.making ≡ Ok (given, t)
          → PieceOk w p.writes (nothing (unwrap_or found no_var) (place_of p.making))
          × Post given (moved p (nothing (unwrap_or found no_var) (place_of p.making)) t)
      by None is ran = cc
      by (Some bound) is ran = stays w p bound Post (post bound is) given t ran

-- the number of a function that is looked up
pub safe_number : (w : Whole) (p : Position) (name : FunctionName) (Post : ℕ → Position → Type 0)
    → ((f : ℕ) → p.making.number name ≡ Some f → Post f p) → SafeAt w p (number name) Post
unfolding number
safe_number w p name Post post stands given t ran fits inside =
    by (p.making.number name) refl ran where
      by : (found : Option ℕ) → p.making.number name ≡ found
          → run_known found p.making ≡ Ok (given, t)
          → PieceOk w p.writes (nothing (unwrap_or found 0) (place_of p.making))
          × Post given (moved p (nothing (unwrap_or found 0) (place_of p.making)) t)
      by None is ran = cc
      by (Some f) is ran = stays w p f Post (post f is) given t ran

abbrev written : Position → Instr → Written
written p instr = record { block = here p; instr = instr }

-- what an instruction sets is set after it
set_now : (w : Whole) (p : Position) (instr : Instr) (block : ℕ) (writes : List Written)
    → block ≡ here p → writes ≡ p.writes ++ written p instr ∷ []
    → (r : ℕ) → set_by instr ≡ Some r → IsSet w writes block r
set_now w p instr block writes there is r sets_r =
    inr (subst (λ b. IsTrue (sets (written_in b writes) r)) (sym there)
    (subst (λ all. IsTrue (sets (written_in (here p) all) r)) (sym is)
    (subst (λ instrs. IsTrue (sets instrs r))
    (sym (written_both (here p) p.writes (written p instr ∷ [])))
    (last_sets (written_in (here p) p.writes) (here p == here p) refl)))) where
      last_sets : (xs : List Instr) (same : Bool) → (here p == here p) ≡ same
          → IsTrue (sets (xs ++ (if same then instr ∷ [] else [])) r)
      last_sets xs false is = absurd (true≢false (grind (arith, is)))
      last_sets xs true is = sets_last xs instr r sets_r

emitted : (w : Whole) (p : Position) (instr : Instr) (t : Making)
    → Makes (plan_emit instr (place_of p.making)) p.making t
    → Emitted w p instr (moved p (plan_emit instr (place_of p.making)) t)
emitted w p instr t made = record {
  keeps = still w p (moved p (plan_emit instr (place_of p.making)) t) made.here made.vars []
      made.regs (written p instr ∷ []) refl
      made.number;
  there = made.here;
  writes = refl;
  sets = set_now w p instr t.here (p.writes ++ written p instr ∷ []) made.here refl;
}

emitted_ok : (w : Whole) (p : Position) (instr : Instr) → InstrOk w p.writes (here p) instr
    → PieceOk w p.writes (plan_emit instr (place_of p.making))
emitted_ok w p instr ok = record {
  kinds = All-nil (IsKind w);
  writes = (ok, tt);
  lasts = All-nil (last_ok w);
}

-- an instruction that fits
pub safe_emit : (w : Whole) (p : Position) (instr : Instr) → InstrOk w p.writes (here p) instr
    → SafeAt w p (emit instr) (λ _. Emitted w p instr)
unfolding emit
safe_emit w p instr ok = safe_by w p (emit instr) (λ _. Emitted w p instr)
    (λ t stands made inside. (emitted_ok w p instr ok, emitted w p instr t made))

-- a block that is made
pub safe_block : (w : Whole) (p : Position) (entry : Entry)
    → SafeAt w p (block_for entry) (MadeBlock w p entry)
unfolding block_for
safe_block w p entry =
    safe_by w p (block_for entry) (MadeBlock w p entry) (λ t stands made inside. (
      record { kinds = All-nil (IsKind w); writes = tt; lasts = All-nil (last_ok w) },
      record {
        made = ap (made_at w) (next stands.blocks)
            ∙ ap (λ list. slice_get list (length p.made)) (inside.made.1
            ∙ append_assoc p.made (one ∷ []) inside.made.0)
            ∙ ap (slice_get (p.made ++ one ∷ inside.made.0)) (omega arith)
            ∙ slice_get_after p.made (one ∷ inside.made.0) 0;
        keeps = still w p (moved p (plan_block entry (place_of p.making)) t) made.here made.vars []
            made.regs [] refl made.number;
        there = made.here;
        writes = append-nil p.writes;
      },
    )) where
      one : NewBlock
      one = record { entry = entry; from = here p }

      next : length p.making.made.blocks ≡ 1 + length p.made
          → length p.making.made.blocks ≡ suc (length p.made)
      next blocks = omega (arith, blocks)

-- a last instruction that fits
pub safe_close : (w : Whole) (p : Position) (last : Last) → LastOk w (here p) last
    → SafeAt w p (close last) (λ _. MadeLast w p)
unfolding close
safe_close w p last ok = safe_by w p (close last) (λ _. MadeLast w p) (λ t stands made inside. (
  record {
    kinds = All-nil (IsKind w);
    writes = tt;
    lasts = All-cons (last_ok w) (record { block = here p; last = last }) [] ok
        (All-nil (last_ok w));
  },
  record {
    keeps = still w p (moved p (plan_close last (place_of p.making)) t) made.here made.vars []
        made.regs [] refl made.number;
    there = made.here;
    writes = append-nil p.writes;
  },
))

-- a block that goes on
pub safe_resume : (w : Whole) (p : Position) (number : ℕ)
    → SafeAt w p (resume number) (λ _. Resumed p number)
unfolding resume
safe_resume w p number = safe_by w p (resume number) (λ _. Resumed p number)
    (λ t stands made inside. (
      record { kinds = All-nil (IsKind w); writes = tt; lasts = All-nil (last_ok w) },
      record {
        there = made.here;
        writes = append-nil p.writes;
        regs = ap length made.regs ∙ ap length (append-nil p.making.made.regs);
        vars = made.vars ∙ append-nil p.making.vars;
        numbers = made.number;
      },
    ))

-- a variable that is seen from then on
pub safe_bind : (w : Whole) (p : Position) (bound : Bound)
    → SafeAt w p (bind bound) (λ _. Named w p bound)
unfolding bind
safe_bind w p bound = safe_by w p (bind bound) (λ _. Named w p bound) (λ t stands made inside. (
  record { kinds = All-nil (IsKind w); writes = tt; lasts = All-nil (last_ok w) },
  record {
    follows = record {
      kept = λ r holds.
          subst (λ block. IsSet w (p.writes ++ []) block r) (sym made.here)
          (set_after w p.writes [] (here p) r holds);
      under = λ r holds. subst (λ block. AtEnd w block r) (sym made.here) holds;
      regs = omega (arith, ap length made.regs, length-append p.making.made.regs []);
      numbers = made.number;
    };
    there = made.here;
    writes = append-nil p.writes;
    vars = made.vars;
  },
))

-- A payload goes to the front of its block.
pub safe_front : (w : Whole) (p : Position) (instr : Instr)
    → (IsTrue (not (is_payload instr) || list_all is_payload (written_in (here p) p.writes))
    → InstrOk w p.writes (here p) instr)
    → SafeAt w p (front instr) (λ _. Emitted w p instr)
unfolding front instrs_at
safe_front w p instr ok stands given t ran fits inside =
    let m = made_by (front instr) p stands given t ran in
    (emitted_ok w p instr (ok (in_front stands.instrs ran)), emitted w p instr t m.1) where
      alone : (found : Option Block) → IsTrue (payloads_alone found)
          → IsTrue (list_all is_payload (instrs_of found))
      alone None holds = cc
      alone (Some block) holds = holds

      by : (may : Bool) → (if may then run_emit instr p.making else Err Missing) ≡ Ok (given, t)
          → IsTrue may
      by true ran = refl
      by false ran = cc

      or : (payload rest all : Bool) → IsTrue (payload && rest) → (IsTrue rest → IsTrue all)
          → IsTrue (not payload || all)
      or true rest all holds so = so holds
      or false rest all holds so = refl

      in_front : ((number : ℕ)
          → instrs_at number p.making.made.blocks ≡ written_in number p.writes)
          → run_front instr p.making ≡ Ok (given, t)
          → IsTrue (not (is_payload instr) || list_all is_payload (written_in (here p) p.writes))
      in_front instrs ran =
          subst (λ list. IsTrue (not (is_payload instr) || list_all is_payload list))
          (instrs (here p))
          (or (is_payload instr) (payloads_alone (slice_get p.making.made.blocks (here p)))
          (list_all is_payload (instrs_of (slice_get p.making.made.blocks (here p))))
          (by (is_payload instr && payloads_alone (slice_get p.making.made.blocks (here p))) ran)
          (alone (slice_get p.making.made.blocks (here p))))

-- What is said after code without its variables is said after its scope.
pub safe_scope : {A : Type 0} (w : Whole) (p : Position) (code : Code A)
    (Post : A → Position → Type 0)
    → SafeAt w p code (λ a q. Post a (seeing p.making.vars q)) → SafeAt w p (scope code) Post
unfolding scope
safe_scope {A} w p code Post safe stands given t ran fits inside =
    by (code.run p.making) refl ran where
      piece : Piece A
      piece = code.plan (place_of p.making)

      vars_are : (u : Making) → u.vars ≡ p.making.vars ++ piece.vars
          → take (length p.making.vars) u.vars ≡ p.making.vars
      vars_are u is = ap (take (length p.making.vars)) is
          ∙ take-append_seam p.making.vars piece.vars

      by : (result : Result (A × Making) CodeFault) → code.run p.making ≡ result
          → with_vars (length p.making.vars) result ≡ Ok (given, t)
          → PieceOk w p.writes (plan_scope code.plan (place_of p.making))
          × Post given (moved p (plan_scope code.plan (place_of p.making)) t)
      by (Err fault) is ran = cc
      by (Ok at) is ran =
          let u = at.1 in
          let m = made_by code p stands at.0 u is in
          let is_ended = ended at.0 (record u { vars = take (length p.making.vars) u.vars }) given t
          ran in
          let t_is : record u { vars = take (length p.making.vars) u.vars } ≡ t =
          is_ended.1 in
          let seen : record u { vars = p.making.vars } ≡ t =
          ap (λ vars. record u { vars = vars }) (sym (vars_are u m.1.vars)) ∙ t_is in
          let got = safe stands at.0 u is (ap (λ making. making.over) t_is ∙ fits)
          (record {
            regs = subst (λ making. IsStart making.made.regs w.regs) (sym t_is) inside.regs;
            made = inside.made;
            writes = inside.writes;
          }) in (
            record { kinds = got.0.kinds; writes = got.0.writes; lasts = got.0.lasts },
            subst (λ making. Post given (moved p (plan_scope code.plan (place_of p.making)) making))
                seen
                (subst (λ a. Post a (moved p (plan_scope code.plan (place_of p.making))
                (record u { vars = p.making.vars }))) is_ended.0 got.1),
          )
