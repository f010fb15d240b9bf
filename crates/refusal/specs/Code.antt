-- The number of each refusal, in the order of the table in docs/RULES.md, section 6, with its
-- condition in a phrase; and what a refusal says: its reason. A contract that refuses states a
-- reason, and reads the code's answer through `reason`. Definitions only.
use Rattle.std.specs.Prelude.{ℕ}
use Rattle.refusal.specs.declared.Refusal.{Refusal}
use Rattle.refusal.specs.declared.Refusal.TheVariants.{UnknownMark, CutShort, BadDigit, SerialTooLarge, Undeclared, Malformed, ScriptTooLong, NetworkFull, KeyTaken, NotAllOut, NotOut, NotBetween, NoticeWaiting, NotIn, SequenceSpent, QueueFull, NoMessage, StartNotInserted, OwnerNotFound}

-- R11.3: the number of each case
abbrev pub code : Refusal → ℕ
-- from the input
code UnknownMark = 1  -- two bytes that are no mark
code CutShort = 2  -- a record without all its bytes, or one byte where a mark should be
code BadDigit = 3  -- a packed serial with a digit above 9
code SerialTooLarge = 4  -- a binary serial, or one handed in as a number, above 99,999,999
code Undeclared = 5  -- a number that names no declared node
code Malformed = 6  -- a node, message or network that is not well formed
code ScriptTooLong = 7  -- a script of more than 65,536 bytes
-- from the state
code NetworkFull = 20  -- declare: there are 32 nodes
code KeyTaken = 21  -- declare: a node has this key
code NotAllOut = 22  -- create: some node is not out
code NotOut = 23  -- join, and a single node's create: the node is not out
code NotBetween = 24  -- join: the key is not between those of left and right
code NoticeWaiting = 25  -- create, join: a SetL to the node waits
code NotIn = 26  -- leave: the node is not in
code SequenceSpent = 27  -- leave: the right number is the last, and the node not alone
code QueueFull = 28  -- join, leave that posts, delivery to be granted: 64 messages wait
code NoMessage = 29  -- deliver: no message is at the place
code StartNotInserted = 30  -- owner: the start is not inserted
code OwnerNotFound = 31  -- owner: the walk does not find it

-- ---- R6.2: what a refusal says, which is its number and nothing else so far
pub data Reason : Type 0 where
  plain : ℕ → Reason

abbrev pub reason : Refusal → Reason
reason r = plain (code r)
