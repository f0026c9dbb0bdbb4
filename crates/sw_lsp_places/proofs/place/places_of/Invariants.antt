use Rattle.std.proofs.Common.{◌≡◌, ◌≤◌, ◌<◌, ◌*◌, ℕ, length, get_or}
use Rattle.sw_lsp_places.specs.Places.{line_in, character_in, origin, place_in}
use Rattle.sw_lsp_places.proofs.place.places_of.Given as goal

abbrev pub invariant-loop-byte : goal.invariant-loop-byte
invariant-loop-byte l = record {
  line : l.line ≡ line_in l.bytes l.byte-index;
  character : l.character ≡ character_in l.bytes l.byte-index;
  few_lines : l.line ≤ l.byte-index;
  few_units : l.character ≤ 2 * l.byte-index;
  all : length l.places.items ≡ l.byte-index;
  each : (at : ℕ) → at < l.byte-index → get_or l.places.items at origin ≡ place_in l.bytes at;
}
