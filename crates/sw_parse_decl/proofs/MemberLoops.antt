-- The members of a type, turn by turn as the code's loop reads them.
use Rattle.std.proofs.Common.{
  ◌≡◌,
  ℕ,
  ◌<◌,
  Bool,
  true,
  false,
  not,
  List,
  [],
  ◌∷◌,
  ◌++◌,
  length,
  codes,
}
use Rattle.std.proofs.Common.{refl, sym, ◌∙◌, ap}
use Rattle.std.specs.Prelude.{Ok, Err}
use Rattle.sw_token.specs.Spelling.{Spelled}
use Rattle.sw_grammar_forms.specs.Sets.{starts}
use Rattle.sw_grammar_forms.specs.Form.{is_item}
use Rattle.sw_grammar_forms.specs.Relations.{head, may_start}
use Rattle.sw_grammar_forms.specs.Reader.{Answer, Fault, Reader, and_then, check, skipping}
use Rattle.sw_grammar_forms.proofs.ItemLoops as loops
use Rattle.sw_grammar_forms.proofs.ItemLoops.{Refuses}
use Rattle.sw_grammar_forms.proofs.ReaderLaws.{bind_step, bind_stop, ok_parts}
use Rattle.sw_grammar.specs.Around.{Around}
use Rattle.sw_grammar.specs.Nests.{El, shape_of, Member}
use Rattle.sw_grammar.specs.Grammar.{body, good}
use Rattle.sw_grammar.specs.Reading.{read}
use Rattle.sw_parse_parts.specs.Nested.{made}
use Rattle.sw_parse_decl.specs.Kinds.{member_shape, member_of, member_first, members_of, rest_of}
use Rattle.sw_parse_decl.specs.Members.{collected, with_member, and_member}
use Rattle.sw_parse_decl.specs.declared.kinds.TypeKind.{TypeKind}
use Rattle.sw_parse_decl.specs.declared.kinds.TypeKind.TheVariants as kinds
use Rattle.sw_parse_decl.specs.declared.members.Members.{Members}
use Rattle.sw_parse_decl.proofs.MemberLists.{with_collected}

good_kind : (kind : TypeKind) → is_item (member_shape kind) ≡ true
good_kind kinds.Struct = refl
good_kind kinds.Enum = refl
good_kind kinds.Class = refl

module _ (around : Around) (depth : ℕ) (kind : TypeKind) where
  abbrev one_member : Reader Member
  one_member = read around depth (member_of around kind)

  -- these members are read, and what is left of the loop gives the same answer as the whole loop
  abbrev pub Progress : List Spelled → List Spelled → Members → Bool → Type 0
  Progress start ts all ended =
      (xs : List Member) × (all ≡ collected xs)
      × (rest_of around depth kind (xs, ended) ts ≡ rest_of around depth kind ([], true) start)

  abbrev goes : List Spelled → Type 0
  goes ts = starts (member_first kind) (head ts) ≡ true

  one_read : (all after : Members) (answer : Answer Member) (vs : List Spelled)
      → and_then {X = Member × List Spelled} {Y = Members × List Spelled} answer
      (λ read. Ok (with_member all read.0, read.1)) ≡ Ok (after, vs)
      → (x : Member) × (answer ≡ Ok (x, vs)) × (after ≡ with_member all x)
  one_read all after (Ok read) vs e =
      let parts = ok_parts {A = Members} e in
      (read.0, ap (λ us. Ok (read.0, us)) parts.1, sym parts.0)
  one_read all after (Err fault) vs e = absurd (cc)

  one_refused : (all : Members) (answer : Answer Member) (fault : Fault)
      → and_then {X = Member × List Spelled} {Y = Members × List Spelled} answer
      (λ read. Ok (with_member all read.0, read.1)) ≡ Err fault → answer ≡ Err fault
  one_refused all (Ok read) fault e = absurd (cc)
  one_refused all (Err first) fault e =
      ap (λ r. elim r [ Ok x ↦ Err first | Err other ↦ Err other ]) e

  all_refused : (start : List Spelled) (fault : Fault) → members_of around depth kind start ≡ Err
      fault
      → made collected (members_of around depth kind) start ≡ Err fault
  all_refused start fault e = bind_stop (members_of around depth kind start) _ fault e

  pub stops_at_start : (start ts : List Spelled) (all : Members) (ended : Bool) → goes ts
      → Progress start ts all ended
      → Refuses (check (may_start (not ended)) ts)
      (made collected (members_of around depth kind) start)
  stops_at_start start ts all ended some so_far fault e =
      all_refused start fault (loops.stops_at_start El shape_of (body around.id_of) good depth
      (member_of around kind) (good_kind kind) start ts so_far.0 ended some so_far.2 fault e)

  pub stops_at_member : (start ts us : List Spelled) (all : Members) (ended : Bool)
      (value : Unit {0}) → goes ts → Progress start ts all ended
      → check (may_start (not ended)) ts ≡ Ok (value, us)
      → Refuses (and_member all one_member us)
      (made collected (members_of around depth kind) start)
  stops_at_member start ts us all ended value some so_far first fault e =
      all_refused start fault (loops.stops_at_item El shape_of (body around.id_of) good depth
      (member_of around kind) (good_kind kind) start ts us so_far.0 ended value some so_far.2 first
      fault (one_refused all (one_member us) fault e))

  pub one_turn : (start ts us vs ws : List Spelled) (all after : Members) (ended marked : Bool)
      (value : Unit {0}) → goes ts → Progress start ts all ended
      → check (may_start (not ended)) ts ≡ Ok (value, us)
      → and_member all one_member us ≡ Ok (after, vs)
      → skipping (codes ";") vs ≡ Ok (marked, ws)
      → Progress start ws after marked
  one_turn start ts us vs ws all after ended marked value some so_far a b c =
      let one = one_read all after (one_member us) vs b in (
        so_far.0 ++ one.0 ∷ [],
        one.2 ∙ (ap (λ m. with_member m one.0) so_far.1 ∙ with_collected so_far.0 one.0),
        loops.one_turn El shape_of (body around.id_of) good depth (member_of around kind) (good_kind kind)
            start ts us vs ws so_far.0 ended marked one.0 value some so_far.2 a one.1 c,
      )

  pub shorter : (ts us vs ws : List Spelled) (all after : Members) (ended marked : Bool)
      (value : Unit {0})
      → check (may_start (not ended)) ts ≡ Ok (value, us)
      → and_member all one_member us ≡ Ok (after, vs)
      → skipping (codes ";") vs ≡ Ok (marked, ws) → length ws < length ts
  shorter ts us vs ws all after ended marked value a b c =
      let one = one_read all after (one_member us) vs b in
      loops.shorter El shape_of (body around.id_of) good depth (member_of around kind) (good_kind kind)
      ts us vs ws [] ended marked one.0 value a one.1 c

  pub all_read : (start ts : List Spelled) (all : Members) (ended : Bool)
      → starts (member_first kind) (head ts) ≡ false → Progress start ts all ended
      → made collected (members_of around depth kind) start ≡ Ok (all, ts)
  all_read start ts all ended ends so_far =
      bind_step (members_of around depth kind start) _ (so_far.0, ts) _
      (loops.all_read El shape_of (body around.id_of) good depth (member_of around kind) (good_kind kind)
      start ts so_far.0 ended ends so_far.2)
      (ap (λ m. Ok (m, ts)) (sym so_far.1))
