-- 02, ticket 2: "A repeat is handled in its turn: in demand 3's lists one that a removal settles, or that a configure comes to before any failure,
-- gets NOWORK. QUERY repeats its answer." A claim about a list of calls with what each returned and left, as Demand3 is.
-- Assumes nothing.
use Rattle.std.specs.Prelude.{ℕ, ◌+◌, ◌*◌, ◌≤◌, ◌<◌, ◌≡◌, Bool, true, false, List, ◌∷◌, ◌++◌, length, get_or, take, drop, eqb, Option, Some, None}
use Rattle.wire.specs.BigEndian.{number_at}
use Rattle.basics.specs.Choice.{◌or◌, every, is_found}
use Rattle.model.specs.declared.Removal.{Removal}
use Rattle.model.specs.Layout.{memory_service, most_records, data_header_bytes, memory_header_bytes, pair_bytes, reply_header_bytes, result_bytes, query_bytes, block_at, outstanding_of, removal_of}
use Rattle.model.specs.Blocks.{named_block}
use Rattle.model.specs.Journal.{kind_begun, kind_settled, kind_removal_end}
use Rattle.model.specs.Memory.{DR-MEM-CONFIGURE, DR-MEM-UNCONFIGURE, DR-MEM-QUERY, DR-MEM-RES-NOWORK, request_type, argument_of, request_number, rises, addr_in, size_in}
use Rattle.model.specs.Calls.{act, receive, work, Outcome}
use Rattle.claims.specs.Demand3.{Done, new_run, runs, noted, reply_of, reached, WellFormedData}

-- record i of a request has the pair of record k, which stands earlier
pub record Repeat (addr size : ℕ → ℕ) (k i : ℕ) : Type 0 where
  pub earlier : k < i
  pub same_address : addr k ≡ addr i
  pub same_size : size k ≡ size i

-- the pairs of a removal
abbrev pub address_at : Removal → ℕ → ℕ
address_at m i = get_or m.address i 0

abbrev pub size_at : Removal → ℕ → ℕ
size_at m i = get_or m.size i 0

-- the block that a pair names is unconfigured
unfoldable pub is_unconfigured : List ℕ → Option ℕ → Bool
is_unconfigured s (Some i) = eqb (block_at s i).configured 0
is_unconfigured s None = false

-- While a removal is outstanding, the block of each settled record is unconfigured. It holds of every list's state, and not of every sound one.
unfoldable pub settled_unconfigured : List ℕ → Bool
settled_unconfigured s =
    eqb (outstanding_of s) 0
    or every (removal_of s).position (λ i. is_unconfigured s (named_block s (address_at (removal_of s) i) (size_at (removal_of s) i)))

-- the record at the position of m is settled NOWORK, in the entry and in the state that the step left
pub record SettledNowork (m : Removal) (r : Outcome) : Type 0 where
  pub in_entry : (noted r).code ≡ DR-MEM-RES-NOWORK
  pub in_state : get_or (removal_of r.state).result m.position 0 ≡ DR-MEM-RES-NOWORK

-- the result of record i in a reply of result records ("addr, size, result"), and record i of a reply to QUERY
abbrev pub result_in : List ℕ → ℕ → ℕ
result_in reply i = number_at reply (reply_header_bytes + i * result_bytes + 16) 4

abbrev pub answer_in : List ℕ → ℕ → List ℕ
answer_in reply i = take query_bytes (drop (reply_header_bytes + i * query_bytes) reply)

-- the memory request in a message
abbrev pub request_in : List ℕ → List ℕ
request_in m = drop data_header_bytes m

-- a request with n records, by its bytes: "argument n from 1 to 16, exactly 16n bytes (addr, size) after the header"; 02, ticket 8: "64
-- records in a request"
pub record Requests (b : List ℕ) (type n : ℕ) : Type 0 where
  pub is_type : request_type b ≡ type
  pub argument : argument_of b ≡ n
  pub some : 1 ≤ n
  pub few : n ≤ most_records
  pub whole : length b ≡ memory_header_bytes + n * pair_bytes

-- an accepted receive on channel c, lent the state s, of well-formed data that has reached the memory service, with a number that rises there
pub record Hears (s : List ℕ) (c : ℕ) (m : List ℕ) (handle : ℕ) (r : Outcome) : Type 0 where
  pub is_data : WellFormedData m handle
  pub accepted : r.refusal ≡ 0
  pub reaches : reached handle r ≡ Some memory_service
  pub is_higher : rises s c (request_number (request_in m)) ≡ true

-- a removal of the n pairs of the request b is begun, in the entry and in the state that the call left
pub record Begun (b : List ℕ) (n : ℕ) (r : Outcome) : Type 0 where
  pub in_entry : (noted r).kind ≡ kind_begun
  pub outstanding : outstanding_of r.state ≡ 1
  pub count : (removal_of r.state).count ≡ n
  pub addresses : (i : ℕ) → i < n → address_at (removal_of r.state) i ≡ addr_in b i
  pub sizes : (i : ℕ) → i < n → size_at (removal_of r.state) i ≡ size_in b i

-- the state that the calls before have left
abbrev pub left_by : List ℕ → List ℕ → List Done → List ℕ
left_by s j before = (runs (new_run s j) before).state

-- Of the state s and the journal j that setup left and the calls made, each with what it returned and left.
pub record Repeats (s j : List ℕ) (ds : List Done) : Type 0 where
  pub unconfigured : settled_unconfigured (runs (new_run s j) ds).state ≡ true
  -- "A repeat is handled in its turn": while none is outstanding an UNCONFIGURE is begun with its pairs as they are, repeats and all
  pub begins :
      (before later : List Done) (c handle : ℕ) (m out : List ℕ) (r : Outcome) (n : ℕ) →
      ds ≡ before ++ record { call = act (receive c m) out; gave = r } ∷ later →
      Hears (left_by s j before) c m handle r →
      Requests (request_in m) DR-MEM-UNCONFIGURE n →
      outstanding_of (left_by s j before) ≡ 0 →
      Begun (request_in m) n r
  -- "one that a removal settles": at each place of the list, of what that work step itself returned and left
  pub settles :
      (before later : List Done) (budget : ℕ) (out : List ℕ) (r : Outcome) (k : ℕ) →
      ds ≡ before ++ record { call = act (work budget) out; gave = r } ∷ later →
      r.refusal ≡ 0 →
      (noted r).kind ≡ kind_settled →
      Repeat (address_at (removal_of (left_by s j before))) (size_at (removal_of (left_by s j before))) k (removal_of (left_by s j before)).position →
      SettledNowork (removal_of (left_by s j before)) r
  -- and is sent so: in the late reply, if there is one, of each settled record that is a repeat
  pub replies :
      (before later : List Done) (budget : ℕ) (out : List ℕ) (r : Outcome) (k i : ℕ) →
      ds ≡ before ++ record { call = act (work budget) out; gave = r } ∷ later →
      r.refusal ≡ 0 →
      (noted r).kind ≡ kind_removal_end →
      (noted r).count ≡ 1 →
      i < (removal_of (left_by s j before)).position →
      Repeat (address_at (removal_of (left_by s j before))) (size_at (removal_of (left_by s j before))) k i →
      result_in (reply_of r) i ≡ DR-MEM-RES-NOWORK
  -- "or that a configure comes to before any failure": while none is outstanding, and each pair before it names a block
  pub configures :
      (before later : List Done) (c handle : ℕ) (m out : List ℕ) (r : Outcome) (n k i : ℕ) →
      ds ≡ before ++ record { call = act (receive c m) out; gave = r } ∷ later →
      Hears (left_by s j before) c m handle r →
      Requests (request_in m) DR-MEM-CONFIGURE n →
      outstanding_of (left_by s j before) ≡ 0 →
      i < n →
      Repeat (addr_in (request_in m)) (size_in (request_in m)) k i →
      ((q : ℕ) → q < i → is_found (named_block (left_by s j before) (addr_in (request_in m) q) (size_in (request_in m) q)) ≡ true) →
      result_in (reply_of r) i ≡ DR-MEM-RES-NOWORK
  -- "QUERY repeats its answer."
  pub queries :
      (before later : List Done) (c handle : ℕ) (m out : List ℕ) (r : Outcome) (n k i : ℕ) →
      ds ≡ before ++ record { call = act (receive c m) out; gave = r } ∷ later →
      Hears (left_by s j before) c m handle r →
      Requests (request_in m) DR-MEM-QUERY n →
      i < n →
      Repeat (addr_in (request_in m)) (size_in (request_in m)) k i →
      (answer_in (reply_of r) i ≡ answer_in (reply_of r) k) × (length (answer_in (reply_of r) i) ≡ query_bytes)
