mod Slots
