-- The frames that are sent.
use Rattle.std.specs.Prelude.{◌≡◌, ◌≤◌, ℕ, List, ◌++◌, length, codes, decimal, Some}
use Rattle.serde_json.specs.Data.{Data, depth}
use Rattle.serde_json.specs.Read.{read, max_depth}
use Rattle.sw_lsp_text.specs.Frames.{blank_line}

-- the header of a body, with its blank line
abbrev pub header_of : List ℕ → List ℕ
header_of body = codes "Content-Length: " ++ decimal (length body) ++ blank_line

-- the frame of a message: its body reads as the message, unless that nests too deep to be read
pub record IsFrame (message : Data) (sent : List ℕ) : Type 0 where
  pub body : List ℕ
  pub sent_is : sent ≡ header_of body ++ body
  pub reads : depth message ≤ max_depth → read body ≡ Some message
