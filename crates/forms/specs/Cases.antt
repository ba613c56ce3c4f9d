-- A writer's calls, written out: the README's paper call by call, each refusal and its neighbour. Assumes nothing.
use Rattle.std.specs.Prelude.{ℕ, ◌≡◌, List, [], ◌∷◌, ◌++◌, map, replicate, Ok, Err}
use Prim.Native.String.{String}
use Rattle.papers.specs.Cases.{two_events}
use Rattle.papers.specs.declared.entries.Entry.{Entry}
use Rattle.forms.specs.declared.items.Writer.{Writer}
use Rattle.forms.specs.declared.items.Refusal.{Refusal}
use Rattle.forms.specs.declared.items.Refusal.TheVariants.{Badpaper, Order, Full, Noroom}
use Rattle.forms.specs.Form.{entry_bytes, paper_header, paper_bytes}
use Rattle.forms.specs.Adding.{Item, sequence, event, counts, new_writer, Added, added, added_all}

-- ---- a paper with a different byte in each place

abbrev pub tick : Entry
tick = record { kind = 2; call = 0; caller = 0; d0 = 0; d1 = 0; d2 = 0; d3 = 0; a0 = 0; sequence = 0 }

abbrev pub naming : ℕ → Entry
naming n = record { kind = 1; call = 0; caller = 0; d0 = 0; d1 = 0; d2 = 0; d3 = 0; a0 = 0; sequence = n }

abbrev pub two_items : List Item
two_items =
    sequence (replicate 16 0x41)
    ∷ sequence (0x51 ∷ 0x52 ∷ 0x53 ∷ 0x54 ∷ 0x55 ∷ 0x56 ∷ 0x57 ∷ 0x58 ∷ 0x59 ∷ 0x5A ∷ 0x5B ∷ 0x5C ∷ 0x5D ∷ 0x5E ∷ 0x5F ∷ 0x60 ∷ [])
    ∷ event (record { kind = 0x11; call = 0x12; caller = 0x1314; d0 = 0x1516; d1 = 0x1718; d2 = 0x191A; d3 = 0x1B1C1D1E; a0 = 0x1F202122; sequence = 2 })
    ∷ event tick
    ∷ []

pub record FormCases : Type 0 where
  -- "kind, call, caller (2), D0 (2), D1 (2), D2 (2), D3 (4), A0 (4), sequence number (2; ..)"
  pub entry : entry_bytes (record { kind = 0x11; call = 0x12; caller = 0x1314; d0 = 0x1516; d1 = 0x1718; d2 = 0x191A; d3 = 0x1B1C1D1E; a0 = 0x1F202122; sequence = 0x2324 })
      ≡ 0x11 ∷ 0x12 ∷ 0x13 ∷ 0x14 ∷ 0x15 ∷ 0x16 ∷ 0x17 ∷ 0x18 ∷ 0x19 ∷ 0x1A ∷ 0x1B ∷ 0x1C ∷ 0x1D ∷ 0x1E ∷ 0x1F ∷ 0x20 ∷ 0x21 ∷ 0x22 ∷ 0x23 ∷ 0x24 ∷ []
  -- no events and no sequences: the header alone
  pub empty : paper_bytes [] [] ≡ 0 ∷ 1 ∷ 0 ∷ 0 ∷ 0 ∷ 12 ∷ 0 ∷ 0 ∷ 0 ∷ 12 ∷ 0 ∷ 12 ∷ []
  -- both bytes of each number: the header of the longest paper
  pub longest : paper_header 1000 64 ≡ 0 ∷ 1 ∷ 3 ∷ 232 ∷ 0 ∷ 12 ∷ 0 ∷ 64 ∷ 78 ∷ 44 ∷ 82 ∷ 44 ∷ []
  -- "the sequences and then the events .. a complete paper", and not a byte behind it
  pub all : added_all (Ok new_writer, replicate 86 0x77) two_items ≡ (Ok (counts 2 2), two_events ++ 0x77 ∷ 0x77 ∷ [])
  -- up to the first refusal: a byte short for the last of them
  pub short : (added_all (Ok new_writer, replicate 83 0x77) two_items).0 ≡ Err Noroom

-- ---- calls

pub record Call : Type 0 where
  pub name : String
  pub writer : Writer
  pub buffer : List ℕ
  pub item : Item
  pub answer : Added
  pub after : List ℕ

abbrev pub comes : Call → Added × List ℕ
comes c = added c.writer c.buffer c.item

abbrev pub should : Call → Added × List ℕ
should c = (c.answer, c.after)

abbrev taken : String → Writer → List ℕ → Item → Writer → List ℕ → Call
taken name w b i w' b' = record { name = name; writer = w; buffer = b; item = i; answer = Ok w'; after = b' }

-- with the buffer as it was
abbrev refused : String → Writer → List ℕ → Item → Refusal → Call
refused name w b i r = record { name = name; writer = w; buffer = b; item = i; answer = Err r; after = b }

-- the README's paper: "sequence TABLE", then six lines
abbrev TABLE : List ℕ
TABLE = 0x54 ∷ 0x41 ∷ 0x42 ∷ 0x4C ∷ 0x45 ∷ replicate 11 0

abbrev lock : ℕ → ℕ → Item
lock caller flags = event (record { kind = 1; call = 0x3E; caller = caller; d0 = 0; d1 = 0; d2 = flags; d3 = 5; a0 = 0; sequence = 1 })

abbrev lock_bytes : ℕ → ℕ → List ℕ
lock_bytes caller flags = 1 ∷ 0x3E ∷ 0 ∷ caller ∷ 0 ∷ 0 ∷ 0 ∷ 0 ∷ 0 ∷ flags ∷ 0 ∷ 0 ∷ 0 ∷ 5 ∷ 0 ∷ 0 ∷ 0 ∷ 0 ∷ 0 ∷ 1 ∷ []

abbrev fshell : List ℕ
fshell = 1 ∷ 0x48 ∷ 0 ∷ 1 ∷ replicate 16 0

abbrev unlock : List ℕ
unlock = 1 ∷ 0x3F ∷ 0 ∷ 2 ∷ 0 ∷ 0 ∷ 0 ∷ 0 ∷ 0 ∷ 0 ∷ 0 ∷ 0 ∷ 0 ∷ 5 ∷ 0 ∷ 0 ∷ 0 ∷ 0 ∷ 0 ∷ 1 ∷ []

abbrev report : List ℕ
report = 4 ∷ 0 ∷ 0 ∷ 1 ∷ replicate 16 0

-- so many events, where the sequence stands, how long: the paper so far, and guard bytes behind it
abbrev stage : ℕ → ℕ → ℕ → List ℕ → ℕ → List ℕ
stage events at long bytes guards = 0 ∷ 1 ∷ 0 ∷ events ∷ 0 ∷ 12 ∷ 0 ∷ 1 ∷ 0 ∷ at ∷ 0 ∷ long ∷ bytes ++ TABLE ++ replicate guards 0x77

unfoldable pub readme : List Call
readme =
    taken "sequence TABLE" new_writer (replicate 150 0x77) (sequence TABLE) (counts 0 1) (stage 0 12 28 [] 122)
    ∷ taken "process 1: fshell" (counts 0 1) (stage 0 12 28 [] 122) (event (record { kind = 1; call = 0x48; caller = 1; d0 = 0; d1 = 0; d2 = 0; d3 = 0; a0 = 0; sequence = 0 })) (counts 1 1)
    (stage 1 32 48 fshell 102)
    ∷ taken "process 2: lock unshared TABLE" (counts 1 1) (stage 1 32 48 fshell 102) (lock 2 1) (counts 2 1)
    (stage 2 52 68 (fshell ++ lock_bytes 2 1) 82)
    ∷ taken "process 1: lock unshared conditional TABLE" (counts 2 1) (stage 2 52 68 (fshell ++ lock_bytes 2 1) 82) (lock 1 3) (counts 3 1)
    (stage 3 72 88 (fshell ++ lock_bytes 2 1 ++ lock_bytes 1 3) 62)
    ∷ taken "process 1: lock unshared TABLE" (counts 3 1) (stage 3 72 88 (fshell ++ lock_bytes 2 1 ++ lock_bytes 1 3) 62) (lock 1 1) (counts 4 1)
    (stage 4 92 108 (fshell ++ lock_bytes 2 1 ++ lock_bytes 1 3 ++ lock_bytes 1 1) 42)
    ∷ taken "process 2: unlock TABLE" (counts 4 1) (stage 4 92 108 (fshell ++ lock_bytes 2 1 ++ lock_bytes 1 3 ++ lock_bytes 1 1) 42)
    (event (record { kind = 1; call = 0x3F; caller = 2; d0 = 0; d1 = 0; d2 = 0; d3 = 5; a0 = 0; sequence = 1 })) (counts 5 1)
    (stage 5 112 128 (fshell ++ lock_bytes 2 1 ++ lock_bytes 1 3 ++ lock_bytes 1 1 ++ unlock) 22)
    ∷ taken "process 1: report" (counts 5 1) (stage 5 112 128 (fshell ++ lock_bytes 2 1 ++ lock_bytes 1 3 ++ lock_bytes 1 1 ++ unlock) 22)
    (event (record { kind = 4; call = 0; caller = 1; d0 = 0; d1 = 0; d2 = 0; d3 = 0; a0 = 0; sequence = 0 })) (counts 6 1)
    (stage 6 132 148 (fshell ++ lock_bytes 2 1 ++ lock_bytes 1 3 ++ lock_bytes 1 1 ++ unlock ++ report) 2)
    ∷ []

-- ---- refusals and their neighbours

-- a paper of one tick, and of one tick that names sequence 1
abbrev one_tick : List ℕ
one_tick = 0 ∷ 1 ∷ 0 ∷ 1 ∷ 0 ∷ 12 ∷ 0 ∷ 0 ∷ 0 ∷ 32 ∷ 0 ∷ 32 ∷ 2 ∷ replicate 19 0

abbrev wrong_name : List ℕ
wrong_name = 0 ∷ 1 ∷ 0 ∷ 1 ∷ 0 ∷ 12 ∷ 0 ∷ 0 ∷ 0 ∷ 32 ∷ 0 ∷ 32 ∷ 2 ∷ replicate 18 0 ++ 1 ∷ []

-- and of one whose other bytes are all 9: a paper may hold any event
abbrev any_event : List ℕ
any_event = 0 ∷ 1 ∷ 0 ∷ 1 ∷ 0 ∷ 12 ∷ 0 ∷ 0 ∷ 0 ∷ 32 ∷ 0 ∷ 32 ∷ replicate 18 9 ++ 0 ∷ 0 ∷ []

-- a paper of two ticks
abbrev two_ticks : List ℕ
two_ticks = 0 ∷ 1 ∷ 0 ∷ 2 ∷ 0 ∷ 12 ∷ 0 ∷ 0 ∷ 0 ∷ 52 ∷ 0 ∷ 52 ∷ 2 ∷ replicate 19 0 ++ 2 ∷ replicate 19 0

-- of four, 92 bytes as with five sequences
abbrev four_ticks : List ℕ
four_ticks = 0 ∷ 1 ∷ 0 ∷ 4 ∷ 0 ∷ 12 ∷ 0 ∷ 0 ∷ 0 ∷ 92 ∷ 0 ∷ 92 ∷ 2 ∷ replicate 19 0 ++ 2 ∷ replicate 19 0 ++ 2 ∷ replicate 19 0 ++ 2 ∷ replicate 19 0

-- a paper of one event and 64 sequences, and of sequences alone, of bytes 5
abbrev one_and_64 : List ℕ
one_and_64 = 0 ∷ 1 ∷ 0 ∷ 1 ∷ 0 ∷ 12 ∷ 0 ∷ 64 ∷ 0 ∷ 32 ∷ 4 ∷ 32 ∷ 2 ∷ replicate 19 0 ++ replicate 1024 5

abbrev just63 : List ℕ
just63 = 0 ∷ 1 ∷ 0 ∷ 0 ∷ 0 ∷ 12 ∷ 0 ∷ 63 ∷ 0 ∷ 12 ∷ 3 ∷ 252 ∷ replicate 1008 5

abbrev just64 : List ℕ
just64 = 0 ∷ 1 ∷ 0 ∷ 0 ∷ 0 ∷ 12 ∷ 0 ∷ 64 ∷ 0 ∷ 12 ∷ 4 ∷ 12 ∷ replicate 1024 5

abbrev five : Item
five = sequence (replicate 16 5)

unfoldable pub calls : List Call
calls =
    -- "after the first call": before it the buffer may hold anything
    taken "a new writer, whatever is in the buffer" new_writer (replicate 33 0xFF) (event tick) (counts 1 0) (one_tick ++ 0xFF ∷ [])
    -- 15: "the buffer does not begin with a paper of the writer's counts"
    ∷ taken "the writer's paper" (counts 1 0) (one_tick ++ replicate 20 7) (event tick) (counts 2 0) two_ticks
    ∷ refused "zeros" (counts 1 0) (replicate 200 0) (event tick) Badpaper
    ∷ refused "nothing" (counts 1 0) [] (event tick) Badpaper
    ∷ refused "the paper, a byte cut off" (counts 1 0) (0 ∷ 1 ∷ 0 ∷ 1 ∷ 0 ∷ 12 ∷ 0 ∷ 0 ∷ 0 ∷ 32 ∷ 0 ∷ 32 ∷ 2 ∷ replicate 18 0) (event tick) Badpaper
    ∷ refused "a paper with an event more" (counts 1 0) two_ticks (event tick) Badpaper
    ∷ refused "a paper with an event less" (counts 2 0) (one_tick ++ replicate 40 0) (event tick) Badpaper
    ∷ refused "a paper with a sequence more" (counts 2 1) two_events (event tick) Badpaper
    ∷ refused "four events for five sequences, which are as long" (counts 0 5) four_ticks (event tick) Badpaper
    ∷ refused "a paper with a sequence less" (counts 2 3) (two_events ++ replicate 40 7) (event tick) Badpaper
    ∷ refused "65 sequences, which no paper has" (counts 0 65) (0 ∷ 1 ∷ 0 ∷ 0 ∷ 0 ∷ 12 ∷ 0 ∷ 65 ∷ 0 ∷ 12 ∷ 4 ∷ 28 ∷ replicate 1100 5) (event tick) Badpaper
    ∷ refused "an event offset changed" (counts 1 0) (0 ∷ 1 ∷ 0 ∷ 1 ∷ 0 ∷ 13 ∷ 0 ∷ 0 ∷ 0 ∷ 32 ∷ 0 ∷ 32 ∷ 2 ∷ replicate 60 0) (event tick) Badpaper
    ∷ refused "a sequence offset changed" (counts 1 0) (0 ∷ 1 ∷ 0 ∷ 1 ∷ 0 ∷ 12 ∷ 0 ∷ 0 ∷ 0 ∷ 33 ∷ 0 ∷ 32 ∷ 2 ∷ replicate 60 0) (event tick) Badpaper
    ∷ refused "a version changed" (counts 1 0) (0 ∷ 2 ∷ 0 ∷ 1 ∷ 0 ∷ 12 ∷ 0 ∷ 0 ∷ 0 ∷ 32 ∷ 0 ∷ 32 ∷ 2 ∷ replicate 60 0) (event tick) Badpaper
    ∷ refused "an event's sequence number changed" (counts 1 0) (wrong_name ++ replicate 20 7) (event tick) Badpaper
    ∷ taken "an event's other bytes changed" (counts 1 0) (any_event ++ replicate 20 7) (event tick) (counts 2 0)
    (0 ∷ 1 ∷ 0 ∷ 2 ∷ 0 ∷ 12 ∷ 0 ∷ 0 ∷ 0 ∷ 52 ∷ 0 ∷ 52 ∷ replicate 18 9 ++ 0 ∷ 0 ∷ 2 ∷ replicate 19 0)
    -- without events too, where the reader says blank
    ∷ taken "a sequence alone" (counts 0 1) (stage 0 12 28 [] 17) five (counts 0 2)
    (0 ∷ 1 ∷ 0 ∷ 0 ∷ 0 ∷ 12 ∷ 0 ∷ 2 ∷ 0 ∷ 12 ∷ 0 ∷ 44 ∷ TABLE ++ replicate 16 5 ++ 0x77 ∷ [])
    ∷ refused "a sequence alone, its length changed" (counts 0 1) (0 ∷ 1 ∷ 0 ∷ 0 ∷ 0 ∷ 12 ∷ 0 ∷ 1 ∷ 0 ∷ 12 ∷ 0 ∷ 29 ∷ replicate 60 5) five Badpaper
    -- 15 stands before 26, 20 and 18
    ∷ refused "changed, and a sequence after an event" (counts 1 0) (replicate 200 0) five Badpaper
    ∷ refused "changed, and a name not given" (counts 1 0) (replicate 200 0) (event (naming 1)) Badpaper
    ∷ refused "changed, and sequence 65" (counts 0 64) (replicate 2000 0) five Badpaper
    ∷ refused "1,001 events, which no paper has" (counts 1001 0) [] (event tick) Badpaper
    -- 26: "a sequence after an event or an event naming a sequence not given"
    ∷ refused "a sequence after an event" (counts 1 0) (one_tick ++ replicate 16 7) five Order
    ∷ refused "a name not given" (counts 2 2) (two_events ++ replicate 20 7) (event (naming 3)) Order
    ∷ taken "the last name given" (counts 2 2) (two_events ++ replicate 20 7) (event (naming 2)) (counts 3 2)
    (
    0 ∷ 1 ∷ 0 ∷ 3 ∷ 0 ∷ 12 ∷ 0 ∷ 2 ∷ 0 ∷ 72 ∷ 0 ∷ 104
    ∷ 0x11 ∷ 0x12 ∷ 0x13 ∷ 0x14 ∷ 0x15 ∷ 0x16 ∷ 0x17 ∷ 0x18 ∷ 0x19 ∷ 0x1A ∷ 0x1B ∷ 0x1C ∷ 0x1D ∷ 0x1E ∷ 0x1F ∷ 0x20 ∷ 0x21 ∷ 0x22 ∷ 0 ∷ 2
    ∷ 2 ∷ replicate 19 0
    ++ 1 ∷ replicate 18 0
    ++ 2 ∷ replicate 16 0x41
    ++ 0x51 ∷ 0x52 ∷ 0x53 ∷ 0x54 ∷ 0x55 ∷ 0x56 ∷ 0x57 ∷ 0x58 ∷ 0x59 ∷ 0x5A ∷ 0x5B ∷ 0x5C ∷ 0x5D ∷ 0x5E ∷ 0x5F ∷ 0x60 ∷ []
    )
    ∷ refused "a name, and no sequence yet" new_writer (replicate 200 0) (event (naming 1)) Order
    -- 26 stands before 20 and 18
    ∷ refused "a sequence after an event, and sequence 65" (counts 1 64) (one_and_64 ++ replicate 40 7) five Order
    ∷ refused "a sequence after an event, into a full buffer" (counts 1 0) one_tick five Order
    ∷ refused "a name not given, into a full buffer" (counts 2 2) two_events (event (naming 3)) Order
    ∷ refused "a name, no sequence and no buffer" new_writer [] (event (naming 1)) Order
    -- 20: "full 20 at .. sequence 65", before 18
    ∷ taken "sequence 64" (counts 0 63) (just63 ++ replicate 17 7) five (counts 0 64) (just64 ++ 7 ∷ [])
    ∷ refused "sequence 65" (counts 0 64) (just64 ++ replicate 16 7) five Full
    ∷ refused "sequence 65, into a full buffer" (counts 0 64) just64 five Full
    -- 18: "when the paper so far would not fit"
    ∷ taken "a first sequence, exact room" new_writer (replicate 28 7) (sequence TABLE) (counts 0 1) (stage 0 12 28 [] 0)
    ∷ refused "a first sequence, a byte short" new_writer (replicate 27 7) (sequence TABLE) Noroom
    ∷ taken "a first event, exact room" new_writer (replicate 32 7) (event tick) (counts 1 0) one_tick
    ∷ refused "a first event, a byte short" new_writer (replicate 31 7) (event tick) Noroom
    ∷ refused "no buffer" new_writer [] (event tick) Noroom
    ∷ taken "an event more, exact room" (counts 1 0) (one_tick ++ replicate 20 7) (event tick) (counts 2 0) two_ticks
    ∷ refused "an event more, a byte short" (counts 1 0) (one_tick ++ replicate 19 7) (event tick) Noroom
    ∷ refused "a sequence more, a byte short" (counts 0 1) (stage 0 12 28 [] 15) five Noroom
    ∷ refused "sequence 64, a byte short" (counts 0 63) (just63 ++ replicate 15 7) five Noroom
    ∷ []

abbrev pub CallCases : Type 0
CallCases = map comes (readme ++ calls) ≡ map should (readme ++ calls)

-- ---- event 1,000 and event 1,001

abbrev pub ticks : ℕ → List ℕ
ticks n = paper_bytes (replicate n tick) []

pub record LastEvents : Type 0 where
  -- "full 20 at event 1,001"
  pub at-1000 : added (counts 999 0) (ticks 999 ++ replicate 21 7) (event tick) ≡ (Ok (counts 1000 0), ticks 1000 ++ 7 ∷ [])
  pub at-1001 : added (counts 1000 0) (ticks 1000 ++ replicate 21 7) (event tick) ≡ (Err Full, ticks 1000 ++ replicate 21 7)
  -- 20 before 18, and 26 before 20
  pub without-room : added (counts 1000 0) (ticks 1000) (event tick) ≡ (Err Full, ticks 1000)
  pub misnamed : added (counts 1000 0) (ticks 1000) (event (naming 1)) ≡ (Err Order, ticks 1000)
  -- event 1,000 a byte short
  pub short : added (counts 999 0) (ticks 999 ++ replicate 19 7) (event tick) ≡ (Err Noroom, ticks 999 ++ replicate 19 7)
