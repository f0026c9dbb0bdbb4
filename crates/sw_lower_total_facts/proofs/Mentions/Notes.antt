-- Notes whose mentions are of certain variables.
use Rattle.std.proofs.Common.{ℕ, Bool, true, false, not, cond, List, [], ◌∷◌, ◌++◌, map, flat_map}
use Rattle.std.proofs.lemmas.List.Elements.{All-cons, All-nil}
use Rattle.std.specs.List.{AllByRecursion, filter}
use Rattle.std.specs.Prelude.{All, if◌then◌else◌}
use Rattle.sw_typing_rules.specs.Worlds.{World}
use Rattle.sw_isolation_rules.specs.Captures.{captured, closed, firsts_from, is_among, is_mention}
use Rattle.sw_isolation_rules.specs.Captures.{mentioned, outer, own_mentions, taken, variables}
use Rattle.sw_isolation_rules.specs.declared.note.Mention.{Mention}
use Rattle.sw_isolation_rules.specs.declared.note.Note.{Note}
use Rattle.sw_isolation_rules.specs.declared.note.Note.TheVariants.{Body, Kind, Refused, Race, Var}
use Rattle.sw_isolation_rules.specs.declared.note.Note.TheVariants.{Mentioned, Captures}
use Rattle.sw_isolation_rules.specs.declared.uses.Context.{Context}
use Rattle.sw_typing_facts.proofs.Types.Within.{all_append}
use Rattle.sw_lower_total_facts.specs.Noted.{mentions}

pub each_more : {X : Type 0} (P Q : X → Type 0) → ((x : X) → P x → Q x) → (xs : List X)
    → AllByRecursion P xs → AllByRecursion Q xs
each_more P Q more [] all = tt
each_more P Q more (x ∷ xs) all = (more x all.0, each_more P Q more xs all.1)

pub each_kept : {X : Type 0} (P : X → Type 0) (test : X → Bool) (xs : List X)
    → AllByRecursion P xs → AllByRecursion P (filter test xs)
each_kept P test [] all = tt
each_kept P test (x ∷ xs) all = by (test x) (each_kept P test xs all.1) where
  by : (is : Bool) → AllByRecursion P (filter test xs)
      → AllByRecursion P (cond is (x ∷ filter test xs) (filter test xs))
  by true rest = (all.0, rest)
  by false rest = rest

-- The variable of a note that mentions one is so.
abbrev pub NoteIs : (ℕ → Type 0) → Note → Type 0
NoteIs P (Body body) = Unit {0}
NoteIs P (Kind kinded) = Unit {0}
NoteIs P (Refused placed) = Unit {0}
NoteIs P (Race placed) = Unit {0}
NoteIs P (Var key) = Unit {0}
NoteIs P (Mentioned one) = P one.variable
NoteIs P (Captures held) = Unit {0}

abbrev pub AreIn : (ℕ → Type 0) → List Note → Type 0
AreIn P notes = AllByRecursion (NoteIs P) notes

-- each of some mentions is of such a variable
abbrev pub MentionsIn : (ℕ → Type 0) → List Mention → Type 0
MentionsIn P mentions = AllByRecursion (λ (one : Mention). P one.variable) mentions

-- Nothing is mentioned.
abbrev pub Silent : List Note → Type 0
Silent notes = AreIn (λ variable. ⊥) notes

pub in_join : (P : ℕ → Type 0) (xs ys : List Note) → AreIn P xs → AreIn P ys → AreIn P (xs ++ ys)
in_join P xs ys one two = all_append (NoteIs P) xs ys one two

note_more : (P Q : ℕ → Type 0) → ((variable : ℕ) → P variable → Q variable) → (note : Note)
    → NoteIs P note → NoteIs Q note
note_more P Q more (Body body) is = tt
note_more P Q more (Kind kinded) is = tt
note_more P Q more (Refused placed) is = tt
note_more P Q more (Race placed) is = tt
note_more P Q more (Var key) is = tt
note_more P Q more (Mentioned one) is = more one.variable is
note_more P Q more (Captures held) is = tt

pub in_more : (P Q : ℕ → Type 0) → ((variable : ℕ) → P variable → Q variable)
    → (notes : List Note) → AreIn P notes → AreIn Q notes
in_more P Q more notes are = each_more (NoteIs P) (NoteIs Q) (note_more P Q more) notes are

pub in_silent : (P : ℕ → Type 0) (notes : List Note) → Silent notes → AreIn P notes
in_silent P notes silent = in_more (λ variable. ⊥) P (λ variable is. absurd is) notes silent

pub in_mentioned : (P : ℕ → Type 0) (list : List Mention) → MentionsIn P list
    → AreIn P (map Mentioned list)
in_mentioned P [] all = tt
in_mentioned P (one ∷ more) all = (all.0, in_mentioned P more all.1)

-- what notes mention
pub of_notes : (P : ℕ → Type 0) (notes : List Note) → AreIn P notes
    → MentionsIn P (flat_map mentioned notes)
of_notes P [] are = tt
of_notes P (Body body ∷ notes) are = of_notes P notes are.1
of_notes P (Kind kinded ∷ notes) are = of_notes P notes are.1
of_notes P (Refused placed ∷ notes) are = of_notes P notes are.1
of_notes P (Race placed ∷ notes) are = of_notes P notes are.1
of_notes P (Var key ∷ notes) are = of_notes P notes are.1
of_notes P (Mentioned one ∷ notes) are = (are.0, of_notes P notes are.1)
of_notes P (Captures held ∷ notes) are = of_notes P notes are.1

-- each variable that is mentioned
pub mentions_are : (P : ℕ → Type 0) (notes : List Note) → AreIn P notes → All P (mentions notes)
mentions_are P notes are = by (flat_map mentioned notes) (of_notes P notes are) where
  by : (list : List Mention) → MentionsIn P list → All P (variables list)
  by [] all = All-nil P
  by (one ∷ more) all = All-cons P one.variable (variables more) all.0 (by more all.1)

-- what isn't a mention mentions nothing
kept_silent : (notes : List Note) → Silent (filter (λ note. not (is_mention note)) notes)
kept_silent [] = tt
kept_silent (Body body ∷ notes) = (tt, kept_silent notes)
kept_silent (Kind kinded ∷ notes) = (tt, kept_silent notes)
kept_silent (Refused placed ∷ notes) = (tt, kept_silent notes)
kept_silent (Race placed ∷ notes) = (tt, kept_silent notes)
kept_silent (Var key ∷ notes) = (tt, kept_silent notes)
kept_silent (Mentioned one ∷ notes) = kept_silent notes
kept_silent (Captures held ∷ notes) = (tt, kept_silent notes)

captured_silent : (closure : ℕ) (listed : List ℕ) (list : List Mention)
    → Silent (map (captured closure listed) list)
captured_silent closure listed [] = tt
captured_silent closure listed (one ∷ more) = (tt, captured_silent closure listed more)

-- the first mentions of each variable
firsts_in : (P : ℕ → Type 0) (found list : List Mention) → MentionsIn P found
    → MentionsIn P list → MentionsIn P (firsts_from found list)
firsts_in P found [] are all = are
firsts_in P found (one ∷ more) are all =
    by (is_among (variables found) one.variable) (firsts_in P found more are all.1)
    (firsts_in P (found ++ one ∷ []) more
    (all_append (λ (m : Mention). P m.variable) found (one ∷ []) are (all.0, tt)) all.1) where
      by : (is : Bool) → MentionsIn P (firsts_from found more)
          → MentionsIn P (firsts_from (found ++ one ∷ []) more)
          → MentionsIn P (firsts_from (if is then found else found ++ one ∷ []) more)
      by true old new = old
      by false old new = new

-- What surrounds a closure sees mentioned what is mentioned inside it.
pub closed_in : (P : ℕ → Type 0) (world : World) (context : Context) (closure : ℕ)
    (listed : List ℕ) (inner : List Note) → AreIn P inner
    → AreIn P (closed world context closure listed inner)
closed_in P world context closure listed inner are =
    in_join P
    (filter (λ note. not (is_mention note)) inner
    ++ map (captured closure listed) (taken world context closure inner)) _
    (in_join P (filter (λ note. not (is_mention note)) inner) _
    (in_silent P _ (kept_silent inner))
    (in_silent P _ (captured_silent closure listed (taken world context closure inner))))
    (in_mentioned P (own_mentions closure inner)
    (firsts_in P [] (outer closure (flat_map mentioned inner)) tt
    (each_kept (λ (one : Mention). P one.variable) _ (flat_map mentioned inner)
    (of_notes P inner are))))
