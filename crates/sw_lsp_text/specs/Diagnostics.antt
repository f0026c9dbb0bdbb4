-- Diagnostics and edits of a document, as the protocol has them in JSON. The members of an object
-- stand in the order of their names.
use Rattle.std.specs.Prelude.{ℕ, ◌==◌, true, if◌then◌else◌, List, length, map, codes, Option}
use Rattle.std.specs.Prelude.{Some, None, option_map, String, string_bytes}
use Rattle.std.specs.declared.alloc.Global.{Global}
use Rattle.serde_json.specs.Data.{Data, null, boolean, number, string, array, object}
use Rattle.serde_json.specs.Data.{item, no_items, no_members, member, put, unsigned}
use Rattle.serde_json.specs.View.{items_of}
use Rattle.sw_lsp_text.specs.declared.diagnostic.Action.{Action}
use Rattle.sw_lsp_text.specs.declared.diagnostic.Diagnostic.{Diagnostic}
use Rattle.sw_lsp_text.specs.declared.diagnostic.Edit.{Edit}
use Rattle.sw_lsp_text.specs.declared.diagnostic.Related.{Related}
use Rattle.sw_lsp_text.specs.declared.place.Place.{Place}
use Rattle.sw_lsp_text.specs.declared.place.Range.{Range}

abbrev pub text : String Global → Data
text s = string (string_bytes s)

abbrev pub place : Place → Data
place p =
    object (member (codes "character") (number (unsigned p.character))
    (member (codes "line") (number (unsigned p.line)) no_members))

abbrev pub range : Range → Data
range r =
    object (member (codes "end") (place r.end) (member (codes "start") (place r.start) no_members))

abbrev pub location : String Global → Range → Data
location uri r =
    object (member (codes "range") (range r) (member (codes "uri") (text uri) no_members))

abbrev pub related : Related → Data
related r =
    object (member (codes "location") (location r.uri r.range)
    (member (codes "message") (text r.message) no_members))

abbrev pub some_related : List Related → Option Data
some_related rs =
    if length rs == 0 then None else Some (array (items_of (map related rs)))

-- the link to a page
abbrev pub link : String Global → Data
link page = object (member (codes "href") (text page) no_members)

abbrev pub with_in : List ℕ → Data → Data → Data
with_in name d null = null
with_in name d (boolean b) = boolean b
with_in name d (number n) = number n
with_in name d (string s) = string s
with_in name d (array ds) = array ds
with_in name d (object ms) = object (put name d ms)

-- an object with one more member, if there is one
abbrev pub with_member : List ℕ → Option Data → Data → Data
with_member name None to = to
with_member name (Some d) to = with_in name d to

-- an error, with severity 1
abbrev pub plain : Diagnostic → Data
plain d =
    object (member (codes "code") (text d.code)
    (member (codes "message") (text d.message)
    (member (codes "range") (range d.range)
    (member (codes "severity") (number (unsigned 1))
    (member (codes "source") (string (codes "swiftcheck")) no_members)))))

abbrev pub diagnostic : Diagnostic → Data
diagnostic d =
    with_member (codes "relatedInformation") (some_related d.related.items)
    (with_member (codes "codeDescription") (option_map link d.page) (plain d))

abbrev pub edit : Edit → Data
edit e =
    object (member (codes "newText") (text e.text) (member (codes "range") (range e.range) no_members))

abbrev pub just : Data → Data
just d = array (item d no_items)

-- the edit of an action, under the address of its document
abbrev pub changes : List ℕ → Edit → Data
changes uri e =
    object (member (codes "changes") (object (member uri (just (edit e)) no_members)) no_members)

-- it is the one to take, since no other action mends the same diagnostic
abbrev pub action : List ℕ → Action → Data
action uri a =
    object (member (codes "diagnostics") (just (diagnostic a.mends))
    (member (codes "edit") (changes uri a.edit)
    (member (codes "isPreferred") (boolean true)
    (member (codes "kind") (string (codes "quickfix"))
    (member (codes "title") (text a.title) no_members)))))
