-- What is mentioned, and what a closure captures by what is noted inside it.
use Rattle.std.specs.Prelude.{ℕ, Bool, true, false, not, ◌==◌, nat_lt, List, [], ◌∷◌}
use Rattle.std.specs.Prelude.{◌++◌, Option, map, flat_map, if◌then◌else◌}
use Rattle.std.specs.List.{list_any, filter}
use Rattle.sw_tree.specs.declared.name.Name.{Name}
use Rattle.sw_types.specs.declared.shape.Shape.{Shape}
use Rattle.sw_typing_rules.specs.Worlds.{World, item}
use Rattle.sw_typing_rules.specs.declared.row.Meaning.{Meaning}
use Rattle.sw_typing_rules.specs.declared.row.Meaning.TheVariants as means
use Rattle.sw_isolation_rules.specs.Answers.{Answers, for_some}
use Rattle.sw_isolation_rules.specs.Kinds.{is_own}
use Rattle.sw_isolation_rules.specs.declared.note.Mention.{Mention}
use Rattle.sw_isolation_rules.specs.declared.note.Note.{Note}
use Rattle.sw_isolation_rules.specs.declared.note.Note.TheVariants.{Body, Kind, Refused, Race, Var}
use Rattle.sw_isolation_rules.specs.declared.note.Note.TheVariants.{Mentioned, Captures}
use Rattle.sw_isolation_rules.specs.declared.uses.Context.{Context}

abbrev pub mention : ℕ → ℕ → Mention
mention variable at = record { variable = variable; at = at }

-- `self` is the variable whose declaration is the word of the type around
abbrev pub self_of : World → Option ℕ → List ℕ
self_of world owner = for_some (item owner world.shapes) (λ (shape : Shape). shape.at ∷ [])

-- `self`, mentioned here
unfoldable pub me_mentions : World → Option ℕ → ℕ → List Mention
me_mentions world owner at = map (λ me. mention me at) (self_of world owner)

-- A word of a variable mentions it. A member of the type around mentions `self`, which is left out
-- before it.
abbrev pub meant_mentions : World → Option ℕ → ℕ → Meaning → List Mention
meant_mentions world owner at (means.Local variable) = mention variable at ∷ []
meant_mentions world owner at (means.OwnPart number) = me_mentions world owner at
meant_mentions world owner at (means.OwnFunc number) = me_mentions world owner at
meant_mentions world owner at (means.GlobalOf number) = []
meant_mentions world owner at (means.FuncOf number) = []
meant_mentions world owner at (means.MakeOf shape) = []
meant_mentions world owner at (means.CaseOf shape number) = []
meant_mentions world owner at (means.PartOf number) = []
meant_mentions world owner at means.Print = []
meant_mentions world owner at means.TaskValue = []

-- what the word with this key mentions
unfoldable pub word_mentions : World → Answers → Option ℕ → ℕ → List Mention
word_mentions world answers owner at =
    for_some (answers.meaning_at at) (meant_mentions world owner at)

-- what the words of a capture list mention
abbrev pub list_mentions : World → Answers → Option ℕ → List Name → List Mention
list_mentions world answers owner words =
    flat_map (λ (word : Name). word_mentions world answers owner word.at) words

abbrev pub variables : List Mention → List ℕ
variables mentions = map (λ (one : Mention). one.variable) mentions

abbrev pub is_among : List ℕ → ℕ → Bool
is_among list variable = list_any (λ one. one == variable) list

abbrev pub mentioned : Note → List Mention
mentioned (Body body) = []
mentioned (Kind kinded) = []
mentioned (Refused placed) = []
mentioned (Race placed) = []
mentioned (Var key) = []
mentioned (Mentioned one) = one ∷ []
mentioned (Captures one) = []

abbrev pub is_mention : Note → Bool
is_mention (Body body) = false
is_mention (Kind kinded) = false
is_mention (Refused placed) = false
is_mention (Race placed) = false
is_mention (Var key) = false
is_mention (Mentioned one) = true
is_mention (Captures one) = false

-- A variable that is mentioned in a closure is an outer one where its declaration stands before the
-- closure: it is declared before it is mentioned.
abbrev pub outer : ℕ → List Mention → List Mention
outer closure mentions = filter (λ (one : Mention). nat_lt one.variable closure) mentions

-- the first mention of each variable, in order, after those that were found
abbrev pub firsts_from : List Mention → List Mention → List Mention
firsts_from found [] = found
firsts_from found (one ∷ more) =
    firsts_from
    (if is_among (variables found) one.variable then found else found ++ one ∷ []) more

abbrev pub firsts : List Mention → List Mention
firsts mentions = firsts_from [] mentions

-- The mention of `self` by a closure or a task that is isolated to it, at the closure
-- itself: it captures `self` even where no word in it does.
abbrev pub held_self : World → Context → ℕ → List Mention
held_self world context closure =
    if is_own context.iso then me_mentions world context.owner closure else []

-- mentions with those of `self`, by the key of `self`, before the others
abbrev pub self_first : List ℕ → List Mention → List Mention
self_first me mentions =
    filter (λ (one : Mention). is_among me one.variable) mentions
    ++ filter (λ (one : Mention). not (is_among me one.variable)) mentions

-- the first mention of each outer variable in a closure, by what is noted inside it
abbrev pub own_mentions : ℕ → List Note → List Mention
own_mentions closure inner = firsts (outer closure (flat_map mentioned inner))

-- What a closure takes, by what is noted inside it: `self` first, where it mentions or holds it,
-- and then each other outer variable that it mentions.
abbrev pub taken : World → Context → ℕ → List Note → List Mention
taken world context closure inner =
    self_first (self_of world context.owner)
    (firsts (outer closure (flat_map mentioned inner ++ held_self world context closure)))

-- what is listed by a closure or by one around it is captured by value
abbrev pub captured : ℕ → List ℕ → Mention → Note
captured closure listed one = Captures (record {
  closure = closure;
  mention = one;
  listed = is_among listed one.variable;
})

-- What is noted of a closure by what is noted inside it: that stands but for the mentions, the
-- closure captures the outer variables, and what surrounds it sees these as mentioned.
abbrev pub closed : World → Context → ℕ → List ℕ → List Note → List Note
closed world context closure listed inner =
    filter (λ note. not (is_mention note)) inner
    ++ map (captured closure listed) (taken world context closure inner)
    ++ map Mentioned (own_mentions closure inner)
