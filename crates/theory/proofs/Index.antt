-- The final statements, each under the sentence that it proves, over the definitions of `meaning`: for words and expressions of any length, tree
-- queries of any size, documents of any size and labels. The proofs stand in the files that the `use` lines name.
use mathlib.Core.Path.{◌≡◌}
use mathlib.Core.Logic.{◌↔◌}
use mathlib.Core.Bool.{Bool, true}
use mathlib.Core.Option.{Option, none, some}
use mathlib.Core.List.{List, [], ◌∷◌, ◌++◌}
use Prim.Native.Nat.{ℕ, suc, ◌-◌, ◌≤◌}
use lib.ListN.{length, drop}
use Rattle.meaning.specs.Document.{Doc, Document}
use Rattle.meaning.specs.Expression.{Expr, pairs, steps, Simple, Agree}
use Rattle.meaning.specs.TreeQuery.{Query, TreeQuery, Selects, SelectsO, nodes}
use Rattle.meaning.specs.Gluing.{plain}
use Rattle.meaning.specs.Tree.{Forest, bare, tree, Tag, Takes, tree_of, plain_tree, size}
use Rattle.meaning.specs.Folding.{Reduced, Sheds, minimal}
use Rattle.meaning.specs.Image.{image, ordered, plain_image, minimal_image, minimal_tree}
use Rattle.meaning.specs.Normal.{either_in, normal, normal_of, normal_form}
use Rattle.meaning.specs.Number.{num, got, groups}
use Rattle.meaning.specs.Word.{Outcome, refused, answered, read_word}
use Rattle.meaning.specs.Matching.{LaysAt}
use Rattle.meaning.specs.Promise.{written, Writes, Question, Selected}
use Rattle.meaning.specs.Program.{program_text}
use Rattle.theory.proofs.Cases as Cases
use Rattle.theory.proofs.Numbers as Numbers
use Rattle.theory.proofs.Document as Documents
use Rattle.theory.proofs.Same as Same
use Rattle.theory.proofs.Least as Least
use Rattle.theory.proofs.Records as Records
use Rattle.theory.proofs.Factors.{normal_simple}
use Rattle.theory.proofs.Again as Again
use Rattle.theory.proofs.Removal as Removal
use Rattle.theory.proofs.Tables.{table_of}
use Rattle.theory.proofs.Bits as Bits
use Rattle.theory.proofs.Pair as Pair
use Rattle.theory.proofs.Once.{Bytes}
use Rattle.theory.proofs.Promise as Promise
use Rattle.theory.proofs.Idle as Idle
use Rattle.theory.proofs.Program as Program

-- ------------------------------------------------------------------ documents and worked cases
-- "On every finite labelled tree": each tree, built from a label and the trees below it, has a document table with its nodes, labels and children.
pub every_tree : (a : ℕ) (k : Forest ℕ) → (D : Doc) × Document D × Documents.TableOf (tree a k bare) D
every_tree = Documents.tree_document

-- .. and each document table is the table of such a tree.
pub every_table : (D : Doc) → Document D → (a : ℕ) × (k : Forest ℕ) × Documents.TableOf (tree a k bare) D
every_table = Documents.document_tree

-- "P1 to P12 are proved as a single table under a single theorem."
pub worked_cases : Cases.Each Cases.Right Cases.cases
worked_cases = Cases.table

-- ------------------------------------------------------------------ demand 2: same pairs
-- "the query as written, its tree query ..
pub same_plain : (e : Expr) (D : Doc) (m n : ℕ) → pairs e D m n ↔ SelectsO (plain e) D m n
same_plain = Same.same_plain

-- .. its minimal tree query .. (paper, theorem 7.1 (1): reducing a tree query gives one equivalent to it)
pub same_minimal : (e : Expr) (D : Doc) (m n : ℕ) → pairs e D m n ↔ Takes (minimal_tree (plain e)) D m n
same_minimal = Same.same_minimal

-- (which is a tree query in the paper's sense: a table that reads as that tree and selects those pairs)
pub minimal_query : (e : Expr) (Q : Query) → plain e ≡ some Q
    → (R : Query) × TreeQuery R × (tree_of R ≡ minimal_tree (plain e)) × ((D : Doc) (m n : ℕ) → pairs e D m n ↔ Selects R D m n)
minimal_query = Same.minimal_query

-- .. and its normal form select the same pairs"
pub same_normal : (e : Expr) (D : Doc) (m n : ℕ) → pairs e D m n ↔ pairs (normal_of (plain e)) D m n
same_normal = Same.same_normal

-- "'Empty' is given exactly when no document yields a pair."
pub empty_exactly : (e : Expr) → (plain e ≡ none) ↔ ((D : Doc) → Document D → (m n : ℕ) → pairs e D m n → ⊥)
empty_exactly = Same.empty_exactly

-- ------------------------------------------------------------------ demand 3: smallest
-- "No tree query of the same meaning has fewer nodes than the minimal one"
pub smallest_tree : (e : Expr) (Q : Query) → TreeQuery Q → Agree (pairs e) (Selects Q) → size (minimal_tree (plain e)) ≤ nodes Q
smallest_tree = Least.smallest_tree

-- two tree queries of one meaning have minimal trees with the same image; with brothers in image order they are one tree
pub one_minimal_image : (P Q : Query) → TreeQuery P → TreeQuery Q → Agree (Selects P) (Selects Q)
    → image (minimal (tree_of P)) ≡ image (minimal (tree_of Q))
one_minimal_image = Least.one_image

pub one_minimal_tree : (P Q : Query) → TreeQuery P → TreeQuery Q → Agree (Selects P) (Selects Q)
    → ordered (minimal (tree_of P)) ≡ ordered (minimal (tree_of Q))
one_minimal_tree = Least.one_query

-- expressions of one meaning have one minimal tree
pub one_tree : (e f : Expr) → Agree (pairs e) (pairs f) → minimal_tree (plain e) ≡ minimal_tree (plain f)
one_tree = Least.one_tree

-- paper, theorem 7.1 (2): "P_red is isomorphic to any minimal T expression equivalent to P". A tree query of the same meaning with as few
-- nodes as the
-- minimal tree is that tree, up to the order of brothers (whichever way it was reduced: `any_order`) ..
pub as_few_nodes : (e : Expr) (Q : Query) → TreeQuery Q → Agree (pairs e) (Selects Q) → nodes Q ≤ size (minimal_tree (plain e))
    → ordered (tree_of Q) ≡ minimal_tree (plain e)
as_few_nodes = Least.as_few_nodes

pub as_few_query : (P Q : Query) → TreeQuery P → TreeQuery Q → Agree (Selects P) (Selects Q) → nodes Q ≤ size (ordered (minimal (tree_of P)))
    → ordered (tree_of Q) ≡ ordered (minimal (tree_of P))
as_few_query = Least.as_few_query

-- .. and so is one that is "minimal if there is no equivalent tree query with fewer nodes"
pub minimal_nodes : (e : Expr) (Q : Query) → TreeQuery Q → Agree (pairs e) (Selects Q)
    → ((R : Query) → TreeQuery R → Agree (pairs e) (Selects R) → nodes Q ≤ nodes R) → ordered (tree_of Q) ≡ minimal_tree (plain e)
minimal_nodes = Least.minimal_nodes

-- an image is the image of one tree, up to the order of brothers
pub one_tree_per_image : (f g : Forest Tag) → image f ≡ image g → ordered f ≡ ordered g
one_tree_per_image = Records.image_back

-- whichever foldable brother is taken first, the end has the same image; and folding comes to an end
pub any_order : (f g : Forest Tag) → Sheds f g → Reduced g → (image g ≡ image (minimal f)) × (ordered g ≡ ordered (minimal f))
any_order = Least.any_order

pub folding_ends : (f : Forest Tag) → (g : Forest Tag) × Sheds f g × Reduced g
folding_ends = Removal.sheds_to_end

-- nor does it matter in which order the brothers stood
pub any_brothers : (f : Forest Tag) → ordered (minimal (ordered f)) ≡ ordered (minimal f)
any_brothers = Least.ordered_first

-- "no Path+ expression of any length with the same meaning has fewer parent and child steps than the normal form ..
-- (paper, theorem 7.2 (1): "If P is a minimal T expression, then T-Path(P) is a minimal Path+ expression"; with `same_normal` it is corollary 7.1)
pub fewest_steps : (e f : Expr) → Agree (pairs e) (pairs f) → steps (normal_of (plain e)) ≤ steps f
fewest_steps = Least.fewest_steps

-- .. which has no intersection and no inverse"
pub no_intersection_no_inverse : (e : Expr) → Simple (normal_of (plain e))
no_intersection_no_inverse e = normal_simple (minimal_tree (plain e))

-- "its steps are the minimal node count less one (none for empty)"
pub steps_nodes : (e : Expr) → steps (normal_of (plain e)) ≡ size (minimal_tree (plain e)) - 1
steps_nodes = Least.steps_nodes

-- paper, lemma 7.4: (1) a tree query built from an expression has at most as many edges as the expression has steps ..
pub plain_edges : (e : Expr) → size (plain_tree (plain e)) ≤ suc (steps e)
plain_edges = Least.plain_size

-- .. and (2) the expression written from a tree query has as many steps as that has edges
pub query_edges : (Q : Query) → TreeQuery Q → suc (steps (normal (tree_of Q))) ≡ nodes Q
query_edges = Least.query_steps

-- paper, theorem 7.2 (2): "If E is a minimal Path+ expression, then Path-T(E) is a minimal T expression". Where an expression has as few steps as its
-- normal form, nothing folds in its plain tree ..
pub as_few_steps : (e : Expr) → steps e ≤ steps (normal_of (plain e)) → ordered (plain_tree (plain e)) ≡ minimal_tree (plain e)
as_few_steps = Least.as_few_steps

-- .. and so where "any equivalent expression has at least as many" steps
pub minimal_steps : (e : Expr) → ((f : Expr) → Agree (pairs e) (pairs f) → steps e ≤ steps f) → ordered (plain_tree (plain e)) ≡ minimal_tree (plain e)
minimal_steps = Least.minimal_steps

-- ------------------------------------------------------------------ demand 2: read in again
-- "Only the shortest writing of a number is read."
pub only_shortest : (bytes : List ℕ) (v k : ℕ) → Bytes bytes → groups true bytes ≡ got v k → bytes ≡ num v ++ drop k bytes
only_shortest = Numbers.read_shortest

-- "The normal form has at most 2,048 bytes .. and it is always accepted as a word."
pub form_accepted : (word : List ℕ) (e : Expr) → read_word word ≡ answered e
    → (length (normal_form (plain e)) ≤ 2048) × (read_word (normal_form (plain e)) ≡ answered (normal_of (plain e)))
form_accepted = Again.form_accepted

-- "the normal form read in again gives the same minimal tree", and the same normal form
pub same_again : (e : Expr)
    → (minimal_tree (plain (normal_of (plain e))) ≡ minimal_tree (plain e)) × (normal_form (plain (normal_of (plain e))) ≡ normal_form (plain e))
same_again = Again.same_again

-- images have "at most 1,538 bytes", and the plain tree of an accepted word has at most 256 nodes
pub images_short : (word : List ℕ) (e : Expr) → read_word word ≡ answered e
    → (length (plain_image (plain e)) ≤ 1538) × (length (minimal_image (plain e)) ≤ 1538)
images_short = Again.images_short

pub plain_nodes : (word : List ℕ) (e : Expr) → read_word word ≡ answered e → size (plain_tree (plain e)) ≤ 256
plain_nodes word e r = (Again.plain_within word e r).few

-- ------------------------------------------------------------------ the pair question
-- "query node u with all below it can be laid with u on document node v, marks ignored": the recursion agrees with containment mappings of that part
pub bit_mapping : (D : Doc) (a : Tag) (k : Forest Tag) (v : ℕ)
    → TreeQuery (table_of (Bits.part a k)) × (LaysAt D a k v ↔ Selects (table_of (Bits.part a k)) D v v)
bit_mapping = Bits.bit_mapping

-- a pair is selected exactly when the nodes on the ways from s and d up to the top are laid consistently and each of their bits is set
pub pair_by_bits : (D : Doc) (m n : ℕ) (a : Tag) (k : Forest Tag) → either_in a k ≡ true
    → Takes (tree a k bare) D m n ↔ Pair.Ways D m n (tree a k bare) none
pair_by_bits = Pair.takes_ways

-- ------------------------------------------------------------------ "That no second answer fits"
pub one_writing : (form : Option Query → List ℕ) (word room : List ℕ) (r r' : Outcome ℕ) (a a' : List ℕ)
    → Writes form word room r a → Writes form word room r' a' → (r ≡ r') × (a ≡ a')
one_writing = Promise.one_writing

pub one_reply : (q : Question) (r r' : Outcome Bool) (a a' : List ℕ) → Bytes a → Bytes a'
    → Selected q r a → Selected q r' a' → (r ≡ r') × (a ≡ a')
one_reply = Promise.one_reply

-- ------------------------------------------------------------------ "These idle versions have to be refused by the promise"
-- "one that refuses all words": no accepted word, as P1 to P12 are, is refused in a room that is long enough
pub refuses_words : (form : Option Query → List ℕ) (word room : List ℕ) (e : Expr) → read_word word ≡ answered e
    → length (form (plain e)) ≤ length room
    → (number place : ℕ) (after : List ℕ) → ¬ Writes form word room (refused number place) after
refuses_words = Idle.refuses_words

-- "one fixed answer, such as empty": the byte 00 is no answer to P1
pub always_empty : (room : List ℕ) (r : Outcome ℕ) → 4 ≤ length room → (¬ Writes plain_image (0x01 ∷ []) room r (0x00 ∷ drop 1 room))
    × (¬ Writes minimal_image (0x01 ∷ []) room r (0x00 ∷ drop 1 room)) × (¬ Writes normal_form (0x01 ∷ []) room r (0x00 ∷ drop 1 room))
always_empty = Idle.always_empty

-- "one that hands the word back as normal form (demand 3, P8)"
pub hands_back : (room after : List ℕ) → ¬ Writes normal_form (0x02 ∷ 0x0A ∷ 0x04 ∷ 0x05 ∷ 0x02 ∷ 0x05 ∷ 0x04 ∷ []) room (answered 7) after
hands_back = Idle.hands_back

-- "one that returns a length other than its answer's": the length is that of the bytes owed, and those are the front of the room
pub own_length : (form : Option Query → List ℕ) (word room : List ℕ) (n : ℕ) (after : List ℕ) → Writes form word room (answered n) after
    → (bytes : List ℕ) × (written form word room ≡ answered bytes) × (n ≡ length bytes) × (after ≡ bytes ++ drop n room)
own_length = Idle.own_length

-- ------------------------------------------------------------------ the program
-- "three lines, each a name, a blank and lower-case hex", or "one line, `refused N P`": never more than this
pub program_text_short : (word : List ℕ) → length (program_text word) ≤ 10272
program_text_short = Program.program_text_short
