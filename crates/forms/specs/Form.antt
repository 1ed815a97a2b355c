-- The three forms of a word, and the bytes of a form over rows. Over rows the two images are one listing: the rows are the plain tree's or the
-- minimal tree's. Of no rows the image is the byte 0 and the normal form the word 0.
use Rattle.std.specs.Prelude.{◌≡◌, Bool, true, false, List, ℕ}
use Rattle.std.proofs.Math.Option.{Option}
use Rattle.meaning.specs.TreeQuery.{Query}
use Rattle.meaning.specs.Tree.{Forest, Tag}
use Rattle.meaning.specs.Image.{plain_image, minimal_image}
use Rattle.meaning.specs.Normal.{normal, word_of, normal_form}
use Rattle.meaning.specs.Word.{Outcome}
use Rattle.meaning.specs.Promise.{fitting, length_of, room_after}
use Rattle.rows.specs.declared.TreeRows.{TreeRows}
use Rattle.rows.specs.Trees.{tree_of}
use Rattle.rows.specs.Table.{image_tree}
use Rattle.image.specs.Listing.{listing_of}
use Rattle.forms.specs.declared.Form.{Form}
use Rattle.forms.specs.declared.Form.TheVariants.{Plain, Minimal, Normal}

-- "plain image, minimal image, normal form"
abbrev pub form_of : Form → Option Query → List ℕ
form_of Plain = plain_image
form_of Minimal = minimal_image
form_of Normal = normal_form

-- the form is of the minimal tree, and not of the plain tree
abbrev pub is_folded : Form → Bool
is_folded Plain = false
is_folded Minimal = true
is_folded Normal = true

-- the tree that the form is of, with brothers in image order
abbrev pub form_tree : Form → Option Query → Forest Tag
form_tree form Q = image_tree (is_folded form) Q

-- the bytes of a form of rows: the normal form is a word, the two others are images
unfoldable pub bytes_of : Form → TreeRows → List ℕ
bytes_of Plain t = listing_of t
bytes_of Minimal t = listing_of t
bytes_of Normal t = word_of (normal (tree_of t))

-- the bytes stand in the front of the room, or are refused with 7 where they do not fit
pub record Fitted (bytes room : List ℕ) (result : Outcome ℕ) (after : List ℕ) : Type 0 where
  pub returned : result ≡ length_of (fitting room bytes)
  pub left : after ≡ room_after room (fitting room bytes)
