-- Each record means something within the limits, and each such meaning is some record's.
use Rattle.std.proofs.Common.{◌≡◌, ℕ, ◌-◌, ◌≤◌, List, [], ◌∷◌, ◌++◌, map, length, replicate, pos, IfSome, Some, None, Option, refl, ap, ◌∙◌, arith}
use Rattle.std.specs.Option.{option_map}
use Rattle.std.specs.List.{AllByRecursion}
use Rattle.std.proofs.lemmas.List.{take_at, drop_at, length-append, length-replicate, length-map}
use Rattle.encoding.specs.Lists.{list, visible}
use Rattle.encoding.specs.Limits.{UrlWithin, KeyDataWithin, KeyTemplateWithin, KeyWithin, KeysetWithin, KeyInfoWithin, KeysetInfoWithin, EncryptedKeysetWithin, Exactly}
use Rattle.encoding.specs.Views.{url_bytes, key_data_view, key_template_view, key_view, keyset_view, key_info_view, keyset_info_view, encrypted_keyset_view}
use Rattle.encoding.specs.declared.bounded.Bounded.{Bounded}
use Rattle.encoding.specs.declared.url.TypeUrl.{TypeUrl}
use Rattle.encoding.specs.declared.records.Key.{Key}
use Rattle.encoding.specs.declared.records.KeyInfo.{KeyInfo}
use Rattle.encoding.specs.ListsLemmas.{list_length}

short : {T : Type 0} {n : ℕ} (b : Bounded T n) → length (list b) ≤ n
short b = omega (arith, list_length b, b.fits)

-- a list that is short enough, with blanks behind it
padded : {T : Type 0} (n : ℕ) (d : T) (xs : List T) → length xs ≤ n → Bounded T n
padded n d xs l = record {
  items = xs ++ replicate (n - length xs) d;
  len = length xs;
  fits = l;
  full = omega (arith, length-append xs (replicate (n - length xs) d), length-replicate (n - length xs) d);
}

padded-list : {T : Type 0} (n : ℕ) (d : T) (xs : List T) (l : length xs ≤ n) → list (padded n d xs l) ≡ xs
unfolding padded
padded-list n d xs l = take_at xs (replicate (n - length xs) d) (length xs) refl

url-held : (u : TypeUrl) → UrlWithin (url_bytes u)
url-held u = record { short = short u.text; seen = u.seen }

url-made : (u : List ℕ) → UrlWithin u → (t : TypeUrl) × (url_bytes t ≡ u)
unfolding padded
url-made u w =
    let b = padded 64 0 u w.short in (
      record { text = b; seen = ap visible (padded-list 64 0 u w.short) ∙ w.seen; clean = drop_at u (replicate (64 - length u) 0) (length u) refl },
      padded-list 64 0 u w.short,
    )

-- records inside records
option_held : {R X : Type 0} (view : R → X) (W : X → Type 0) → ((r : R) → W (view r)) → (o : Option R) → IfSome (option_map view o) W
option_held view W h None = tt
option_held view W h (Some r) = h r

option_made : {R X : Type 0} (view : R → X) (W : X → Type 0) → ((m : X) → W m → (r : R) × (view r ≡ m)) → (o : Option X) → IfSome o W → (p : Option R) × (option_map view p ≡ o)
option_made view W h None w = (None, refl)
option_made view W h (Some m) w = let r = h m w in (Some r.0, ap Some r.1)

all_held : {R X : Type 0} (view : R → X) (W : X → Type 0) → ((r : R) → W (view r)) → (rs : List R) → AllByRecursion W (map view rs)
all_held view W h [] = tt
all_held view W h (r ∷ rs) = (h r, all_held view W h rs)

all_made : {R X : Type 0} (view : R → X) (W : X → Type 0) → ((m : X) → W m → (r : R) × (view r ≡ m)) → (ms : List X) → AllByRecursion W ms → (rs : List R) × (map view rs ≡ ms)
all_made view W h [] w = ([], refl)
all_made view W h (m ∷ ms) w =
    let r = h m w.0 in
    let t = all_made view W h ms w.1 in
    let e = r.1 in
    let f = t.1 in
    (r.0 ∷ t.0, cc)

list_held : {R X : Type 0} {n : ℕ} (view : R → X) (b : Bounded R n) → length (map view (list b)) ≤ n
list_held view b = omega (arith, length-map (list b) view, short b)

list-made : {R X : Type 0} (view : R → X) (W : X → Type 0) → ((m : X) → W m → (r : R) × (view r ≡ m)) → R → (n : ℕ) (ms : List X) → length ms ≤ n → AllByRecursion W ms → (b : Bounded R n) × (map view (list b) ≡ ms)
list-made view W h d n ms l w =
    let t = all_made view W h ms w in
    let few : length t.0 ≤ n = omega (arith, length-map t.0 view, ap length t.1) in
    (padded n d t.0 few, ap (map view) (padded-list n d t.0 few) ∙ t.1)

pub key_data : Exactly key_data_view KeyDataWithin
key_data = record {
  held = λ d. record { url = url-held d.type_url; value = short d.value; material = d.material_width };
  made = λ m w.
      let u = url-made m.type_url w.url in
      let p = u.1 in
      let q = padded-list 128 0 m.value w.value in
      (record { type_url = u.0; value = padded 128 0 m.value w.value; key_material_type = m.key_material_type; material_width = w.material }, λ j. record { type_url = p j; value = q j; key_material_type = m.key_material_type });
}

pub key_template : Exactly key_template_view KeyTemplateWithin
key_template = record {
  held = λ d. record { url = url-held d.type_url; value = short d.value; prefix = d.prefix_width };
  made = λ m w.
      let u = url-made m.type_url w.url in
      let p = u.1 in
      let q = padded-list 128 0 m.value w.value in
      (record { type_url = u.0; value = padded 128 0 m.value w.value; output_prefix_type = m.output_prefix_type; prefix_width = w.prefix }, λ j. record { type_url = p j; value = q j; output_prefix_type = m.output_prefix_type });
}

pub key : Exactly key_view KeyWithin
key = record {
  held = λ k. record { content = option_held key_data_view KeyDataWithin key_data.held k.key_data; status = k.status_width; id = k.id_width; prefix = k.prefix_width };
  made = λ m w.
      let o = option_made key_data_view KeyDataWithin key_data.made m.key_data w.content in
      let p = o.1 in
      (record { key_data = o.0; status = m.status; key_id = m.key_id; output_prefix_type = m.output_prefix_type; status_width = w.status; id_width = w.id; prefix_width = w.prefix }, λ j. record { key_data = p j; status = m.status; key_id = m.key_id; output_prefix_type = m.output_prefix_type });
}

pub key_info : Exactly key_info_view KeyInfoWithin
key_info = record {
  held = λ i. record { url = url-held i.type_url; status = i.status_width; id = i.id_width; prefix = i.prefix_width };
  made = λ m w.
      let u = url-made m.type_url w.url in
      let p = u.1 in
      (record { type_url = u.0; status = m.status; key_id = m.key_id; output_prefix_type = m.output_prefix_type; status_width = w.status; id_width = w.id; prefix_width = w.prefix }, λ j. record { type_url = p j; status = m.status; key_id = m.key_id; output_prefix_type = m.output_prefix_type });
}

blank_key_lem : Key
blank_key_lem = record { key_data = None; status = pos 0; key_id = 0; output_prefix_type = pos 0; status_width = omega arith; id_width = omega arith; prefix_width = omega arith }

blank_info : KeyInfo
blank_info = record { type_url = (url-made [] (record { short = omega arith; seen = refl })).0; status = pos 0; key_id = 0; output_prefix_type = pos 0; status_width = omega arith; id_width = omega arith; prefix_width = omega arith }

pub keyset : Exactly keyset_view KeysetWithin
keyset = record {
  held = λ s. record { primary = s.id_width; few = list_held key_view s.key; all = all_held key_view KeyWithin key.held (list s.key) };
  made = λ m w.
      let b = list-made key_view KeyWithin key.made blank_key_lem 16 m.keys w.few w.all in
      let p = b.1 in
      (record { primary_key_id = m.primary_key_id; key = b.0; id_width = w.primary }, λ j. record { primary_key_id = m.primary_key_id; keys = p j });
}

pub keyset_info : Exactly keyset_info_view KeysetInfoWithin
keyset_info = record {
  held = λ s. record { primary = s.id_width; few = list_held key_info_view s.key_info; all = all_held key_info_view KeyInfoWithin key_info.held (list s.key_info) };
  made = λ m w.
      let b = list-made key_info_view KeyInfoWithin key_info.made blank_info 16 m.key_infos w.few w.all in
      let p = b.1 in
      (record { primary_key_id = m.primary_key_id; key_info = b.0; id_width = w.primary }, λ j. record { primary_key_id = m.primary_key_id; key_infos = p j });
}

pub encrypted_keyset : Exactly encrypted_keyset_view EncryptedKeysetWithin
encrypted_keyset = record {
  held = λ e. record { sealed = short e.encrypted_keyset; info = option_held keyset_info_view KeysetInfoWithin keyset_info.held e.keyset_info };
  made = λ m w.
      let o = option_made keyset_info_view KeysetInfoWithin keyset_info.made m.keyset_info w.info in
      let p = o.1 in
      let q = padded-list 4160 0 m.encrypted_keyset w.sealed in
      (record { encrypted_keyset = padded 4160 0 m.encrypted_keyset w.sealed; keyset_info = o.0 }, λ j. record { encrypted_keyset = q j; keyset_info = p j });
}
