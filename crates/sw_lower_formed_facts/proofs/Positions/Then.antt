-- Code that is safe, and after it code that is safe.
use Rattle.std.proofs.Common.{◌≡◌, List, [], ◌∷◌, ◌++◌, ap, sym, ◌∙◌, subst, refl, arith}
use Rattle.std.proofs.Common.{append_assoc, append-nil, length-append, false}
use Rattle.std.proofs.lemmas.List.Elements.{All-append}
use Rattle.std.specs.Prelude.{Result, Ok, Err}
use Rattle.sw_lower_plans.specs.Plan.{Ended, NewBlock, Piece, Written, after, joined, written_in}
use Rattle.sw_lower_plans.specs.Run.{Making, Makes, Meets, place_of, run_after}
use Rattle.sw_lower_plans.specs.declared.fault.CodeFault.{CodeFault}
use Rattle.sw_lower_plans.proofs.BlockFacts.{written_both}
use Rattle.sw_lower_plans.proofs.SameThen.{place_after}
use Rattle.sw_lower_code.specs.Code.{Code, andthen}
use Rattle.sw_lower_formed_facts.specs.Fitting.{AllWritten, IsKind, LastOk, PieceOk}
use Rattle.sw_lower_formed_facts.specs.Safe.{IsStart, IsIn, Position, SafeAt, IsAsPlanned, moved}
use Rattle.sw_lower_formed_facts.specs.Whole.{Whole}

-- what a run that ended made is what the plan says
pub made_by : {A : Type 0} (code : Code A) (p : Position) → IsAsPlanned p → (value : A) (t : Making)
    → code.run p.making ≡ Ok (value, t)
    → Meets p.making (Ok (value, t)) (code.plan (place_of p.making))
made_by code p stands value t ran =
    subst (λ result. Meets p.making result (code.plan (place_of p.making))) ran
    (code.same p.making stands.going)

-- The function stands after a piece of code as it stood before.
pub stands_after : {A : Type 0} (piece : Piece A) (p : Position) (t : Making) → IsAsPlanned p
    → t.over ≡ false → Makes piece p.making t → IsAsPlanned (moved p piece t)
stands_after piece p t stands fits made = record {
  going = made.there;
  fits = fits;
  blocks = omega (arith, made.blocks, stands.blocks, length-append p.made piece.made);
  instrs = λ number.
      made.instrs fits number
      ∙ ap (λ instrs. instrs ++ written_in number piece.writes) (stands.instrs number)
      ∙ sym (written_both number p.writes piece.writes);
}

-- The start of what is a start is a start.
pub start_of_start : {A : Type 0} (xs ys zs : List A) → IsStart (xs ++ ys) zs → IsStart xs zs
start_of_start xs ys zs start = (ys ++ start.0, start.1 ∙ append_assoc xs ys start.0)

-- what holds in the end holds before
pub in_before : {A : Type 0} (w : Whole) (piece : Piece A) (p : Position) (t : Making)
    → Makes piece p.making t → IsIn w (moved p piece t) → IsIn w p
in_before w piece p t made inside = record {
  regs = start_of_start p.making.made.regs piece.regs w.regs
      (subst (λ regs. IsStart regs w.regs) made.regs inside.regs);
  made = start_of_start p.made piece.made w.made inside.made;
  writes = start_of_start p.writes piece.writes w.writes inside.writes;
}

abbrev position : Making → List NewBlock → List Written → Position
position making made writes = record { making = making; made = made; writes = writes }

-- Two pieces move to where the second moves from where the first did.
moved_both : {A B : Type 0} (first : Piece A) (second : Piece B) (p : Position) (t u : Making)
    → moved (moved p first t) second u ≡ moved p (joined first second) u
moved_both first second p t u =
    ap (λ made. position u made ((p.writes ++ first.writes) ++ second.writes))
    (append_assoc p.made first.made second.made)
    ∙ ap (position u (p.made ++ (first.made ++ second.made)))
    (append_assoc p.writes first.writes second.writes)

written_then : (w : Whole) (before xs ys : List Written) → AllWritten w before xs
    → AllWritten w (before ++ xs) ys → AllWritten w before (xs ++ ys)
written_then w before [] ys one two =
    subst (λ written. AllWritten w written ys) (append-nil before) two
written_then w before (x ∷ xs) ys one two = (
  one.0,
  written_then w (before ++ x ∷ []) xs ys one.1
      (subst (λ written. AllWritten w written ys) (sym (append_assoc before (x ∷ []) xs)) two),
)

pieces_ok : {A B : Type 0} (w : Whole) (first : Piece A) (second : Piece B) (before : List Written)
    → PieceOk w before first → PieceOk w (before ++ first.writes) second
    → PieceOk w before (joined first second)
pieces_ok w first second before one two = record {
  kinds = All-append (IsKind w) first.regs second.regs one.kinds two.kinds;
  writes = written_then w before first.writes second.writes one.writes two.writes;
  lasts = All-append (λ (last : Ended). LastOk w last.block last.last) first.lasts second.lasts
      one.lasts two.lasts;
}

-- Code after code is safe where each of them is.
pub safe_then : {A B : Type 0} (w : Whole) (p : Position) (first : Code A) (next : A → Code B)
    (Mid : A → Position → Type 0) (Post : B → Position → Type 0) → SafeAt w p first Mid
    → ((a : A) (q : Position) → IsIn w q → Mid a q → SafeAt w q (next a) Post)
    → SafeAt w p (andthen first next) Post
unfolding andthen
safe_then {A} {B} w p first next Mid Post one two stands value u ran fits inside =
    by (first.run p.making) refl ran where
      one_piece : Piece A
      one_piece = first.plan (place_of p.making)

      Goal : Piece B → Type 0
      Goal piece = PieceOk w p.writes (joined one_piece piece)
          × Post value (moved p (joined one_piece piece) u)

      two_piece : Piece B
      two_piece = (next one_piece.value).plan (after (place_of p.making) one_piece)

      both : (a : A) (t : Making) → first.run p.making ≡ Ok (a, t)
          → (next a).run t ≡ Ok (value, u) → Goal two_piece
      both a t is ran =
          let m = made_by first p stands a t is in
          let is_piece : (next a).plan (place_of t) ≡ two_piece =
          ap (λ v. (next v).plan (place_of t)) m.0
          ∙ ap (next one_piece.value).plan (place_after one_piece p.making t m.1) in
          let n = subst (λ result. Meets t result ((next a).plan (place_of t))) ran
          ((next a).same t m.1.there) in
          let q = moved p one_piece t in
          let other = (next a).plan (place_of t) in
          let end : IsIn w (moved q other u) =
          subst (IsIn w) (sym (moved_both one_piece other p t u))
          (subst (λ piece. IsIn w (moved p (joined one_piece piece) u)) (sym is_piece) inside) in
          let mid = in_before w other q u n.1 end in
          let got = one stands a t is (n.1.before fits) mid in
          let then = two a q mid got.1
          (stands_after one_piece p t stands (n.1.before fits) m.1) value u ran fits end in
          subst Goal is_piece (
            pieces_ok w one_piece other p.writes got.0 then.0,
            subst (Post value) (moved_both one_piece other p t u) then.1,
          )

      by : (result : Result (A × Making) CodeFault) → first.run p.making ≡ result
          → run_after result (λ a. (next a).run) ≡ Ok (value, u) → Goal two_piece
      by (Err fault) is ran = cc
      by (Ok at) is ran = both at.0 at.1 is ran

-- code of which the plan says all
pub safe_by : {A : Type 0} (w : Whole) (p : Position) (code : Code A)
    (Post : A → Position → Type 0)
    → ((t : Making) → IsAsPlanned p → Makes (code.plan (place_of p.making)) p.making t
    → IsIn w (moved p (code.plan (place_of p.making)) t)
    → PieceOk w p.writes (code.plan (place_of p.making))
    × Post (code.plan (place_of p.making)).value (moved p (code.plan (place_of p.making)) t))
    → SafeAt w p code Post
safe_by w p code Post rule stands value t ran fits inside =
    let m = made_by code p stands value t ran in
    let got = rule t stands m.1 inside in
    (got.0, subst (λ v. Post v (moved p (code.plan (place_of p.making)) t)) (sym m.0) got.1)

-- Safe code is safe with whatever follows of what was shown.
pub safe_weaker : {A : Type 0} (w : Whole) (p : Position) (code : Code A)
    (Strong Post : A → Position → Type 0) → SafeAt w p code Strong
    → ((a : A) (q : Position) → IsIn w q → Strong a q → Post a q) → SafeAt w p code Post
safe_weaker w p code Strong Post safe weaker stands value t ran fits inside =
    let got = safe stands value t ran fits inside in
    (got.0, weaker value (moved p (code.plan (place_of p.making)) t) inside got.1)

-- where code stands that runs to its end, what is made until then is in the function
pub safe_in : {A : Type 0} (w : Whole) (p : Position) (code : Code A)
    (Post : A → Position → Type 0) → (IsIn w p → SafeAt w p code Post) → SafeAt w p code Post
safe_in w p code Post safe stands value t ran fits inside =
    safe (in_before w (code.plan (place_of p.making)) p t
    (made_by code p stands value t ran).1 inside) stands value t ran fits inside
