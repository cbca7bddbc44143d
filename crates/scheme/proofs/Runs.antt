-- Every run on a formatted layer answers as the ledger does, asks only what is sound, and wears the device no more than allowed.
use Rattle.std.proofs.Common.{◌≡◌, ℕ, zero, suc, ◌+◌, ◌*◌, ◌/◌, ◌%◌, ◌<◌, ◌≤◌, min, Bool, true, false, cond, ◌&&◌, eqb, ltb, leb, List, [], ◌∷◌, ◌++◌, length, is_some, Some, None, Option, sym, refl, ap, ◌∙◌, subst, ap₂, inl, inr, mod-lt, div-lt_iff_lt-mul, mul-le-mul_left, div-add-mod', arith}
use Rattle.std.specs.List.{AllByRecursion}
use Rattle.std.proofs.ByRecursion.{All-weaker}
use Rattle.std.proofs.lemmas.Bool.{cases_Bool, cases_lt, cases_eq, ltb-true, ltb-false, leb-true, leb-false, le-ltb, eqb-true, and_parts, or_parts}
use Rattle.flash.specs.Meaning.{Flash}
use Rattle.scheme.specs.Asks.{Sound, Unrefused}
use Rattle.scheme.specs.Functions.{sum_below, some_below, upd}
use Rattle.scheme.specs.Law.{told, all_told, erases, CallCounted, RolesRight, RolesKept, Law, EveryRunIsLawful, EveryCallIsLawful}
use Rattle.scheme.specs.Ledger.{Call, read, write, refused, wrote, Reply, Ledger, shown, reads, empty, entered, ledger_next, ledger_after, Answered, AllAnswered}
use Rattle.scheme.specs.Place.{place}
use Rattle.scheme.specs.Roles.{TablesRight, led, role_of}
use Rattle.scheme.specs.Runs.{Start, Layer, sectors, Outcome, unchanged, call, write_refusal, replaces, worn, content, Turn, turns, last_layer, replies_of, most_erases, format, fit, geometry_fits, nothing}
use Rattle.scheme.specs.Steps.{page_of, seen_of, formatted, write as write_steps}
use Rattle.scheme.specs.Tables.{Tables}
use Rattle.scheme.specs.Work.{State, line}
use Rattle.scheme.proofs.Accepted.{writes}
use Rattle.scheme.proofs.Formats.{formats, format_cleans}
use Rattle.scheme.proofs.Held.{Inv}
use Rattle.scheme.proofs.Overwrites.{Wrote, charge}
use Rattle.scheme.proofs.Partition.{tables_right}
use Rattle.scheme.proofs.Plain.{sees}
use Rattle.scheme.proofs.Roles.{data_of, inside, place_inside, place_page}
use Rattle.scheme.proofs.Works.{Marked, Done, Wears, Marks, Allowed, unrefused}

-- what holds of the rest of a run, with E erases so far
pub record Kept (P L : ℕ) (y : Layer) (g : Ledger) (E : ℕ) (cs : List Call) : Type 0 where
  pub answers : AllAnswered g cs (replies_of y cs)
  pub asks : AllByRecursion (λ (t : Turn). AllByRecursion (Sound t.before.pages t.before.logical) t.outcome.asked) (turns y cs)
  pub accepted : AllByRecursion (λ (t : Turn). AllByRecursion Unrefused t.outcome.asked) (turns y cs)
  pub roles : 0 < L → AllByRecursion RolesKept (turns y cs)
  pub counted : erases (last_layer y cs) ≡ erases y + all_told (replies_of y cs)
  pub bounded : P * (E + all_told (replies_of y cs)) ≤ (P + 1) * (ledger_after g cs (replies_of y cs)).overwrites
  pub each : AllByRecursion CallCounted (turns y cs)

-- what holds of one call and of the rest of the run after it
record KeptCall (P L : ℕ) (y : Layer) (g : Ledger) (E : ℕ) (c : Call) (cs : List Call) (o : Outcome) : Type 0 where
  right : Answered g c o.reply
  asked : AllByRecursion (Sound y.pages y.logical) o.asked
  allowed : AllByRecursion Unrefused o.asked
  role : 0 < L → RolesKept (record { before = y; outcome = o })
  count : erases o.after ≡ erases y + told o.reply.answer
  few : told o.reply.answer ≤ most_erases y
  rest : Kept P L o.after (ledger_next g c o.reply.answer) (E + told o.reply.answer) cs

joined : (P L : ℕ) (y : Layer) (g : Ledger) (E : ℕ) (c : Call) (cs : List Call) → KeptCall P L y g E c cs (call y c) → Kept P L y g E (c ∷ cs)
joined P L y g E c cs k =
    record {
      answers = (k.right, k.rest.answers);
      asks = (k.asked, k.rest.asks);
      accepted = (k.allowed, k.rest.accepted);
      roles = λ h. (k.role h, k.rest.roles h);
      counted = omega (arith, k.count, k.rest.counted);
      bounded = regroup P E (told (call y c).reply.answer) _ _ k.rest.bounded;
      each = (record { counted = k.count; few = k.few }, k.rest.each);
    }
  where
    regroup : (P E a b w : ℕ) → P * (E + a + b) ≤ w → P * (E + (a + b)) ≤ w
    regroup P E a b w h = omega arith

-- a read of what the ledger has
pub same_read : (size : ℕ) (p q : ℕ → Option (List ℕ)) (n : ℕ) (buffer : List ℕ) → (n < size → p n ≡ q n) → reads size p n buffer ≡ reads size q n buffer
same_read size p q n buffer h =
    elim (cases_Bool (ltb n size)) [
      | inl e ↦ rw (e, reads) (ap (λ z. elim (eqb (length buffer) 512) as (λ _. Reply) [ false ↦ record { answer = refused 3; buffer = buffer } | true ↦ shown z ]) (h (ltb-true n size e)))
      | inr e ↦ rw (e, reads) refl
    ]

-- a read makes no erase
shown_free : (o : Option (List ℕ)) → told (shown o).answer ≡ 0
shown_free None = refl
shown_free (Some x) = refl

read_free : (size : ℕ) (p : ℕ → Option (List ℕ)) (n : ℕ) (buffer : List ℕ) → told (reads size p n buffer).answer ≡ 0
read_free size p n buffer =
    elim (ltb n size)
    as (λ b. told (elim b as (λ _. Reply) [ false ↦ record { answer = refused 13; buffer = buffer } | true ↦ elim (eqb (length buffer) 512) as (λ _. Reply) [ false ↦ record { answer = refused 3; buffer = buffer } | true ↦ shown (p n) ] ]).answer ≡ 0) [
      | false ↦ refl
      | true ↦ elim (eqb (length buffer) 512)
          as (λ b. told (elim b as (λ _. Reply) [ false ↦ record { answer = refused 3; buffer = buffer } | true ↦ shown (p n) ]).answer ≡ 0)
          [ false ↦ refl | true ↦ shown_free (p n) ]
    ]

-- the device's erases, from what they are below B
abbrev total : Flash → ℕ
total f = sum_below f.blocks f.count

grown : (B : ℕ) (f g : Flash) (e : ℕ) → f.blocks ≡ B → Wears B f g e → total g ≡ total f + e
grown B f g e i w = ap (λ k. sum_below k g.count) (w.same_blocks ∙ i) ∙ w.total ∙ ap (λ k. sum_below k f.count + e) (sym i)

-- below a bound, all pass where none fails
none_below : (n : ℕ) (test : ℕ → Bool) → some_below n test ≡ false → (b : ℕ) → b < n → test b ≡ false
none_below zero test e b h = absurd (omega arith)
none_below (suc n) test e b h =
    let a = or_parts (some_below n test) (test n) e in
    elim (cases_eq b n) [ inl i ↦ rw i a.1 | inr ne ↦ none_below n test a.0 b (omega arith) ]

capped : (b : Bool) (e n : ℕ) → e ≤ cond b n 0 → e ≤ n
capped true e n h = h
capped false e n h = omega arith

-- what is so of a write that is not refused: there is the sector, there are 512 bytes, no overwrite finds a block that it could wear out,
-- and there is a stamp left
pub record Admitted (y : Layer) (n : ℕ) (bytes : List ℕ) : Type 0 where
  pub known : n < sectors y
  pub whole : length bytes ≡ 512
  pub unworn : replaces y n ≡ true → worn y ≡ false
  pub stamped : eqb y.state.tables.next 0xFFFFFFFF ≡ false

pub admitted : (y : Layer) (n : ℕ) (bytes : List ℕ) → write_refusal y n bytes ≡ None → Admitted y n bytes
unfolding write_refusal
admitted y n bytes e =
    let t = passed (ltb n (sectors y)) (eqb (length bytes) 512) (replaces y n) (worn y) (eqb y.state.tables.next 0xFFFFFFFF) e in
    record { known = ltb-true n (sectors y) t.0; whole = eqb-true (length bytes) 512 t.1; unworn = t.2; stamped = t.3 }
  where
    passed : (a b c d f : Bool)
        → elim a as (λ _. Option ℕ) [
          | false ↦ Some 13
          | true ↦ elim b as (λ _. Option ℕ) [
            | false ↦ Some 3
            | true ↦ elim (c && d) as (λ _. Option ℕ) [ true ↦ Some 12 | false ↦ cond f (Some 14) None ]
          ]
        ] ≡ None → (a ≡ true) × (b ≡ true) × (c ≡ true → d ≡ false) × (f ≡ false)
    passed false b c d f e = let z : ◌≡◌ {A = ℕ} 0 1 = cc in absurd (omega arith)
    passed true false c d f e = let z : ◌≡◌ {A = ℕ} 0 1 = cc in absurd (omega arith)
    passed true true true true f e = let z : ◌≡◌ {A = ℕ} 0 1 = cc in absurd (omega arith)
    passed true true true false true e = let z : ◌≡◌ {A = ℕ} 0 1 = cc in absurd (omega arith)
    passed true true true false false e = (refl, refl, λ _. refl, refl)
    passed true true false d true e = let z : ◌≡◌ {A = ℕ} 0 1 = cc in absurd (omega arith)
    passed true true false d false e = (refl, refl, λ h. let z : ◌≡◌ {A = ℕ} 0 1 = cc in absurd (omega arith), refl)

module _ (P L R B : ℕ) (pos : 1 < P) (some_L : 0 < L) (some_R : 0 < R) (wide : L + R + 2 ≤ B) (small : L * P ≤ 0xFFFFFFFF) where
  abbrev lay : State → Layer
  lay s = record { pages = P; logical = L; random = R; state = s }

  pub record Running (s : State) (g : Ledger) (E : ℕ) : Type 0 where
    pub inv : Inv P L R B g.line s
    pub blocks : s.flash.blocks ≡ B
    pub size : g.size ≡ L * P
    pub wear : P * E + charge P s.tables ≤ (P + 1) * g.overwrites
    pub pages : s.flash.pages ≡ P
    pub marks : Marks (L * P) B s.flash
    pub young : (b : ℕ) → b < B → s.flash.count b ≤ s.flash.life

  pos₀ : 0 < P
  pos₀ = omega arith

  -- a write replaces bytes just where the ledger has a line
  pub replaces_line : (s : State) (g : Ledger) (E : ℕ) → Running s g E → (n : ℕ) → n < L * P → replaces (lay s) n ≡ is_some (g.line n)
  replaces_line s g E r n h =
      let known : n / P < L = (div-lt_iff_lt-mul pos₀).1 h in
      let fits : n % P < P = mod-lt n pos₀ in
      let data_in : s.tables.data_block (n / P) < s.flash.blocks = omega (arith, r.blocks, inside r.inv.roles (s.tables.data_block (n / P)) (data_of (n / P)) (r.inv.roles.data_role (n / P) known) (λ z. omega arith)) in
      ap (λ x. is_some (line x)) (sees s.flash (s.tables.data_block (n / P)) (n % P) data_in (omega (arith, r.pages))) ∙ r.inv.held.behind (n / P) (n % P) known fits ∙ ap (λ k. is_some (g.line k)) (div-add-mod' n P)

  -- no block is worn out by the erases of an accepted write
  spares : (s : State) (g : Ledger) (E : ℕ) → Running s g E → (n : ℕ) (bytes : List ℕ) → write_refusal (lay s) n bytes ≡ None → (e : ℕ) → e ≤ cond (is_some (g.line n)) (min P L + 1) 0
      → (b : ℕ) → b < B → s.flash.count b + e ≤ s.flash.life
  spares s g E r n bytes free e h b i =
      elim (cases_Bool (is_some (g.line n))) [
        | inr z ↦ let k : e ≤ 0 = rw z at h in omega (arith, r.young b i)
        | inl z ↦
            let k : e ≤ min P L + 1 = rw z at h in
            let a = admitted (lay s) n bytes free in
            let over : replaces (lay s) n ≡ true = replaces_line s g E r n a.known ∙ z in
            let q = none_below s.flash.blocks (λ b. ltb s.flash.life (s.flash.count b + (min P L + 1))) (a.unworn over) b (omega (arith, r.blocks)) in
            omega (arith, ltb-false s.flash.life (s.flash.count b + (min P L + 1)) q)
      ]

  -- a write, by its refusal
  abbrev writing : State → ℕ → List ℕ → Option ℕ → Outcome
  writing s n bytes q =
      elim q [
        | Some m ↦ unchanged (lay s) (record { answer = refused m; buffer = bytes })
        | None ↦
            let w = write_steps P R n bytes s in
            record { after = lay w.after; reply = record { answer = wrote w.erases w.copies; buffer = bytes }; asked = w.asked; changes = w.changes }
      ]

  -- a read shows the page in the sector's place
  shows : (s : State) (g : Ledger) (E : ℕ) → Running s g E → (n : ℕ) → n < L * P → seen_of P s (n / P) (n % P) ≡ page_of P s (n / P) (n % P)
  shows s g E r n h =
      let c = n / P in
      let o = n % P in
      let known : c < L = (div-lt_iff_lt-mul pos₀).1 h in
      sees s.flash (place P s.tables c o).block (place P s.tables c o).page
      (omega (arith, r.blocks, place_inside P L R B r.inv.role s.tables pos₀ r.inv.roles c o known))
      (omega (arith, r.pages, place_page P L R B r.inv.role s.tables pos₀ r.inv.roles c o (mod-lt n pos₀)))

  -- and that has the ledger's line
  pub has_line : (s : State) (g : Ledger) (E : ℕ) → Running s g E → (n : ℕ) → n < L * P → content (lay s) n ≡ g.line n
  has_line s g E r n h =
      ap line (shows s g E r n h) ∙ r.inv.held.view (n / P) (n % P) ((div-lt_iff_lt-mul pos₀).1 h) (mod-lt n pos₀) ∙ ap g.line (div-add-mod' n P)

  -- the roles on the way
  stands : (s : State) (g : Ledger) (E : ℕ) → Running s g E → RolesRight (lay s)
  stands s g E r =
      record {
        right = subst (λ n. TablesRight P L R n s.tables) (sym r.blocks) (tables_right P L R B r.inv.role s.tables r.inv.roles);
        free_blank = r.inv.held.free_blank;
      }

  -- an accepted write: what it does, and that the run goes on from where it ends
  pub record Accepts (s : State) (g : Ledger) (E n : ℕ) (bytes : List ℕ) : Type 0 where
    pub write : Wrote P L R B (cond (is_some (g.line n)) (min P L + 1) 0) (upd g.line n (Some bytes)) s (write_steps P R n bytes s) ((P + 1) * cond (is_some (g.line n)) 1 0)
    pub done : Done P L B s (write_steps P R n bytes s) write.end write.e
    pub running : Running (write_steps P R n bytes s).after (entered g n bytes) (E + (write_steps P R n bytes s).erases)

  pub accepts : (s : State) (g : Ledger) (E : ℕ) → Running s g E → (n : ℕ) (bytes : List ℕ) → write_refusal (lay s) n bytes ≡ None → Accepts s g E n bytes
  accepts s g E r n bytes e =
      let a = admitted (lay s) n bytes e in
      let w = writes P L R B pos some_L some_R wide g.line s r.inv r.blocks r.pages n a.known bytes a.whole in
      let o = write_steps P R n bytes s in
      let spare = spares s g E r n bytes e w.e w.few in
      let d = w.does.when (record { blocks = r.blocks; pages = r.pages; small = small; marks = r.marks; spare = spare }) in
      record {
        write = w;
        done = d;
        running =
            record {
              inv = subst (Inv P L R B (upd g.line n (Some bytes))) (sym d.ends) w.inv;
              blocks = ap (λ (x : State). x.flash.blocks) d.ends ∙ d.wears.same_blocks ∙ r.blocks;
              size = r.size;
              wear = omega (arith, w.wear, r.wear, ap (λ k. P * k) d.counts, ap (λ (x : State). charge P x.tables) d.ends);
              pages = ap (λ (x : State). x.flash.pages) d.ends ∙ d.wears.same_pages ∙ r.pages;
              marks = subst (λ (x : State). Marks (L * P) B x.flash) (sym d.ends) d.marks;
              young = λ b i. subst (λ (x : State). x.flash.count b ≤ x.flash.life) (sym d.ends) (omega (arith, d.wears.each_block b, spare b i, d.wears.same_life));
            };
      }

  runs : (cs : List Call) (s : State) (g : Ledger) (E : ℕ) → Running s g E → Kept P L (lay s) g E cs
  unfolding call
  runs [] s g E r = record { answers = tt; asks = tt; accepted = tt; roles = λ _. tt; counted = omega arith; bounded = omega (arith, r.wear); each = tt }
  runs (read n buffer ∷ cs) s g E r =
      let none = read_free (L * P) (content (lay s)) n buffer in
      joined P L (lay s) g E (read n buffer) cs
      (record {
        right =
            ap (λ k. reads k (content (lay s)) n buffer) (sym r.size)
            ∙ same_read g.size (content (lay s)) g.line n buffer
            (λ h. has_line s g E r n (omega (arith, r.size)));
        asked = tt;
        allowed = tt;
        role = λ _. record { right = stands s g E r; led = λ b i. refl };
        count = omega (arith, none);
        few = omega (arith, none);
        rest = subst (λ e. Kept P L (lay s) g e cs) (omega (arith, none)) (runs cs s g E r);
      })
  runs (write n bytes ∷ cs) s g E r =
      joined P L (lay s) g E (write n bytes) cs
      ((elim (write_refusal (lay s) n bytes)
      as (λ q. write_refusal (lay s) n bytes ≡ q → KeptCall P L (lay s) g E (write n bytes) cs (writing s n bytes q)) [
        | Some m ↦ λ _.
            record {
              right = refl;
              asked = tt;
              allowed = tt;
              role = λ _. record { right = stands s g E r; led = λ b i. refl };
              count = omega arith;
              few = omega arith;
              rest = subst (λ e. Kept P L (lay s) g e cs) (omega arith) (runs cs s g E r);
            }
        | None ↦ λ e.
            let a = accepts s g E r n bytes e in
            let w = a.write in
            let d = a.done in
            let o = write_steps P R n bytes s in
            record {
              right = refl;
              asked = d.sound;
              allowed = All-weaker Allowed Unrefused unrefused o.asked d.allowed;
              role = λ _. record {
                right = stands o.after (entered g n bytes) (E + o.erases) a.running;
                led = λ b i. subst (λ (x : State). led b o.changes (role_of s.tables b) ≡ Some (role_of x.tables b)) (sym d.ends) (d.led b (omega (arith, r.blocks)));
              };
              count = ap (λ (x : State). total x.flash) d.ends ∙ grown B s.flash w.end.flash w.e r.blocks d.wears ∙ ap (λ k. total s.flash + k) (sym d.counts);
              few = rw d.counts (capped (is_some (g.line n)) w.e (min P L + 1) w.few);
              rest = runs cs o.after (entered g n bytes) (E + o.erases) a.running;
            }
      ])
      refl)

-- a layer of no sectors refuses every call
pub no_sector : (f : Flash) (n : ℕ) (bytes : List ℕ) → write_refusal (nothing f) n bytes ≡ Some 13
unfolding write_refusal
no_sector f n bytes = let past : ltb n (0 * 0) ≡ false = le-ltb n (0 * 0) (omega arith) in rw (past, write_refusal) refl

idles : (f : Flash) (cs : List Call) (g : Ledger) → g.size ≡ 0 * 0 → Kept 0 0 (nothing f) g 0 cs × (all_told (replies_of (nothing f) cs) ≡ 0)
unfolding call write_refusal
idles f [] g e = (record { answers = tt; asks = tt; accepted = tt; roles = λ _. tt; counted = omega arith; bounded = omega arith; each = tt }, refl)
idles f (read n buffer ∷ cs) g e =
    let y : Layer = nothing f in
    let none = read_free (0 * 0) (content y) n buffer in
    let more = idles f cs g e in (
      joined 0 0 y g 0 (read n buffer) cs
          (record {
            right = ap (λ k. reads k (content y) n buffer) (sym e) ∙ same_read g.size (content y) g.line n buffer (λ h. absurd (omega (arith, e)));
            asked = tt;
            allowed = tt;
            role = λ h. absurd (omega arith);
            count = omega (arith, none);
            few = omega (arith, none);
            rest = subst (λ e. Kept 0 0 y g e cs) (omega (arith, none)) more.0;
          }),
      ap₂ (λ a b. a + b) none more.1,
    )
idles f (write n bytes ∷ cs) g e =
    let y : Layer = nothing f in
    let no : write_refusal y n bytes ≡ Some 13 = no_sector f n bytes in
    let o : Outcome = unchanged y (record { answer = refused 13; buffer = bytes }) in
    let same : call y (write n bytes) ≡ o = rw (no, call) refl in
    let more = idles f cs g e in (
      joined 0 0 y g 0 (write n bytes) cs
          (rw (no, call) (record { right = refl; asked = tt; allowed = tt; role = λ h. absurd (omega arith); count = omega arith; few = omega arith; rest = more.0 })),
      subst (λ (x : Outcome). told x.reply.answer + all_told (replies_of x.after cs) ≡ 0) (sym same) (ap (λ k. 0 + k) more.1),
    )

-- P * a ≤ (P + 1) * w bounds a by w and a P-th of it
part_more : (P a w : ℕ) → 0 < P → P * a ≤ (P + 1) * w → a ≤ w + w / P
part_more P a w pos h =
    elim (cases_lt (w + w / P) a) [
      | inl c ↦
          let u : P * suc (w + w / P) ≤ P * a = mul-le-mul_left P c in
          absurd (omega (arith, u, div-add-mod' w P, mod-lt w pos))
      | inr c ↦ c
    ]

-- what the fit check grants
pub record Fits (f : Flash) (L R : ℕ) : Type 0 where
  pub pages : 1 < f.pages
  pub few_pages : f.pages ≤ 32
  pub few_blocks : f.blocks ≤ 512
  pub some_L : 0 < L
  pub few_L : L ≤ 480
  pub some_R : 0 < R
  pub few_R : R ≤ 16
  pub wide : L + R + 2 ≤ f.blocks
  pub small : L * f.pages ≤ 0xFFFFFFFF
  pub unworn : (b : ℕ) → b < f.blocks → f.count b < f.life

narrow : (L P : ℕ) → L ≤ 480 → P ≤ 32 → L * P ≤ 0xFFFFFFFF
narrow L P i j = let u : L * P ≤ L * 32 = mul-le-mul_left L j in omega arith

pub fits : (f : Flash) (L R : ℕ) → fit f L R ≡ None → Fits f L R
unfolding fit
fits f L R e =
    elim (cases_Bool (geometry_fits f L R)) [
      | inl h ↦
          let a = and_parts _ _ h in
          let b = and_parts _ _ a.0 in
          let c = and_parts _ _ b.0 in
          let d = and_parts _ _ c.0 in
          let g = and_parts _ _ d.0 in
          record {
            pages = leb-true 2 f.pages (and_parts _ _ g.0).0;
            few_pages = leb-true f.pages 32 (and_parts _ _ g.0).1;
            few_blocks = leb-true f.blocks 512 g.1;
            some_L = leb-true 1 L (and_parts _ _ c.1).0;
            few_L = leb-true L 480 (and_parts _ _ c.1).1;
            some_R = leb-true 1 R (and_parts _ _ b.1).0;
            few_R = leb-true R 16 (and_parts _ _ b.1).1;
            wide = leb-true (L + R + 2) f.blocks a.1;
            small = narrow L f.pages (leb-true L 480 (and_parts _ _ c.1).1) (leb-true f.pages 32 (and_parts _ _ g.0).1);
            unworn = λ b i. leb-false f.life (f.count b) (none_below f.blocks (λ b. leb f.life (f.count b)) (young (rw (h, fit) at e)) b i);
          }
      | inr h ↦ let z : ◌≡◌ {A = Option ℕ} (Some 11) None = rw (h, fit) at e in let w : ◌≡◌ {A = ℕ} 0 1 = cc in absurd (omega arith)
    ]
  where
    young : cond {A = Option ℕ} (some_below f.blocks (λ b. leb f.life (f.count b))) (Some 12) None ≡ None → some_below f.blocks (λ b. leb f.life (f.count b)) ≡ false
    young e =
        elim (cases_Bool (some_below f.blocks (λ b. leb f.life (f.count b)))) [
          | inr z ↦ z
          | inl z ↦ let q : ◌≡◌ {A = Option ℕ} (Some 12) None = rw z at e in let w : ◌≡◌ {A = ℕ} 0 1 = cc in absurd (omega arith)
        ]

lawful_from : (start : Start) (cs : List Call) → Kept (format start).pages (format start).logical (format start) (empty ((format start).logical * (format start).pages)) 0 cs
    → (let w = (ledger_after (empty ((format start).logical * (format start).pages)) cs (replies_of (format start) cs)).overwrites in all_told (replies_of (format start) cs) ≤ w + w / (format start).pages)
    → (0 < (format start).logical → RolesRight (format start))
    → Law start cs (replies_of (format start) cs)
lawful_from start cs k b right =
    record {
      replied = refl;
      answers = k.answers;
      asks = k.asks;
      unrefused = k.accepted;
      roles = λ h. (right h, k.roles h);
      counted = k.counted;
      bounded = b;
      each = k.each;
    }

-- a layer by the answer of the fit check
abbrev pub by_fit : Start → Option ℕ → Layer
by_fit start q =
    let f = start.device in
    elim q [
      | Some _ ↦ nothing f
      | None ↦ record { pages = f.pages; logical = start.logical; random = start.random; state = (formatted start.logical start.first f).after }
    ]

-- what is kept by a layer, the bound on its erases, and the roles that it starts with
record Borne (y : Layer) (cs : List Call) : Type 0 where
  kept : Kept y.pages y.logical y (empty (y.logical * y.pages)) 0 cs
  bound : let w = (ledger_after (empty (y.logical * y.pages)) cs (replies_of y cs)).overwrites in all_told (replies_of y cs) ≤ w + w / y.pages
  right : 0 < y.logical → RolesRight y

-- what format leaves of a device that fits
pub begins : (start : Start) (e : fit start.device start.logical start.random ≡ None)
    → let f = start.device in
    let L = start.logical in
    let h = fits f L start.random e in
    Running f.pages L start.random f.blocks h.pages h.some_L h.some_R h.wide h.small (formatted L start.first f).after (empty (L * f.pages)) 0
begins start e =
    let f = start.device in
    let P = f.pages in
    let L = start.logical in
    let h = fits f L start.random e in
    let c = format_cleans L start.first f h.unworn in
    record {
      inv = formats P L start.random start.first f h.unworn (omega (arith, h.pages)) (omega (arith, h.wide));
      blocks = c.blocks;
      size = refl;
      wear = omega (arith, ap (λ (t : Tables). charge P t) c.tables);
      pages = c.pages;
      marks = λ b p i. subst (Marked (L * P)) (sym (c.clean b p i)) tt;
      young = λ b i. omega (arith, c.once b i, c.life, h.unworn b i);
    }

bears : (start : Start) (cs : List Call) (q : Option ℕ) → fit start.device start.logical start.random ≡ q → Borne (by_fit start q) cs
bears start cs (Some m) e =
    let k = idles start.device cs (empty (0 * 0)) refl in
    record { kept = k.0; bound = omega (arith, k.1); right = λ h. absurd (omega arith) }
bears start cs None e =
    let f = start.device in
    let P = f.pages in
    let L = start.logical in
    let h = fits f L start.random e in
    let s : State = (formatted L start.first f).after in
    let y : Layer = by_fit start None in
    let pos : 0 < P = omega (arith, h.pages) in
    let k = runs P L start.random f.blocks h.pages h.some_L h.some_R h.wide h.small cs s (empty (L * P)) 0 (begins start e) in
    record {
      kept = k;
      bound = part_more P _ _ pos (subst (λ n. P * n ≤ (P + 1) * (ledger_after (empty (L * P)) cs (replies_of y cs)).overwrites) (omega arith) k.bounded);
      right = λ _. stands P L start.random f.blocks h.pages h.some_L h.some_R h.wide h.small s (empty (L * P)) 0 (begins start e);
    }

pub every_run_is_lawful : EveryRunIsLawful
unfolding format
every_run_is_lawful start cs =
    let b : Borne (format start) cs = bears start cs (fit start.device start.logical start.random) refl in
    lawful_from start cs b.kept b.bound b.right

pub last_push : (y : Layer) (cs : List Call) (c : Call) → last_layer y (cs ++ (c ∷ [])) ≡ (call (last_layer y cs) c).after
last_push y [] c = refl
last_push y (d ∷ cs) c = last_push (call y d).after cs c

pub replies_push : (y : Layer) (cs : List Call) (c : Call) → replies_of y (cs ++ (c ∷ [])) ≡ replies_of y cs ++ ((call (last_layer y cs) c).reply ∷ [])
replies_push y [] c = refl
replies_push y (d ∷ cs) c = ap (λ rs. (call y d).reply ∷ rs) (replies_push (call y d).after cs c)

pub every_call_is_lawful : EveryCallIsLawful
every_call_is_lawful y c start calls e = (
  last_push (format start) calls c ∙ ap (λ z. (call z c).after) e,
  subst (Law start (calls ++ (c ∷ [])))
      (replies_push (format start) calls c ∙ ap (λ z. replies_of (format start) calls ++ ((call z c).reply ∷ [])) e)
      (every_run_is_lawful start (calls ++ (c ∷ []))),
)
